use Rattle.std.proofs.Common.{refl, sym, ◌∙◌, arith}
use Rattle.hpr_forest.proofs.CutStates.{empty_first, empty_is_whole, empty_none, empty_spent, true_not_false}
use Rattle.hpr_forest.proofs.Spending.{empty_among, empty_count}
use Rattle.hpr_forest.proofs.fitting.judge_empty.Goals as goal

pub returns-then-branch-clause-first : goal.returns-then-branch-clause-first
returns-then-branch-clause-first g c =
    let search = g.T.Backtracking in
    let s = c.args.search.now in
    empty_first (search.can s) (search.fits s) (search.size s) (search.clash s) c.requires.size (search.placed s) c.requires.first (c.in_ok-judge.ensures.0 c.if-branch.true)

pub returns-then-tries-eq0-clause-spent : goal.returns-then-tries-eq0-clause-spent
returns-then-tries-eq0-clause-spent g c = λ is.
    let search = g.T.Backtracking in
    let s = c.args.search.now in
    empty_spent (search.can s) (search.fits s) (search.size s) (search.clash s) c.requires.size c.args.tries c.if-tries-eq0.true

pub judge-requires : goal.judge-requires
judge-requires g c =
    let search = g.T.Backtracking in
    let s = c.args.search.now in
    record { sound = c.requires.sound; whole = empty_is_whole (search.can s) (search.fits s) (search.size s) (search.clash s) c.requires.size (search.placed s) c.requires.first }

pub returns-else-branch-clause-none : goal.returns-else-branch-clause-none
returns-else-branch-clause-none g c =
    let search = g.T.Backtracking in
    let s = c.args.search.now in
    empty_none (search.can s) (search.fits s) (search.size s) (search.clash s) c.requires.size (search.placed s) c.requires.first
    (λ yes_. true_not_false (sym (c.in_ok-judge.ensures.1 yes_) ∙ c.if-branch.false))

pub returns-then-branch-clause-first_within : goal.returns-then-branch-clause-first_within
returns-then-branch-clause-first_within g c =
    let search = g.T.Backtracking in
    let s = c.args.search.now in
    empty_among (search.can s) (search.size s) (search.clash s) c.requires.size 1 (search.placed s) c.requires.first (omega arith)

pub returns-then-branch-clause-first_least : goal.returns-then-branch-clause-first_least
returns-then-branch-clause-first_least g c =
    let search = g.T.Backtracking in
    let s = c.args.search.now in
    empty_spent (search.can s) (search.fits s) (search.size s) (search.clash s) c.requires.size 0 refl

pub returns-then-branch-clause-first_tries : goal.returns-then-branch-clause-first_tries
returns-then-branch-clause-first_tries g c = omega (arith, c.if-tries-eq0.false)

pub returns-else-branch-clause-none_all : goal.returns-else-branch-clause-none_all
returns-else-branch-clause-none_all g c =
    let search = g.T.Backtracking in
    let s = c.args.search.now in
    empty_count (search.can s) (search.size s) (search.clash s) c.requires.size

pub returns-else-branch-clause-none_tries : goal.returns-else-branch-clause-none_tries
returns-else-branch-clause-none_tries g c = omega (arith, c.if-tries-eq0.false)
