use Rattle.std.proofs.Common.{◌≡◌, ◌+◌, ◌<◌, false, [], ◌∷◌, length, length-append, refl, sym, ap, subst, ◌∙◌, arith}
use Rattle.hpr_forest.specs.Choices.{Follows}
use Rattle.hpr_forest.proofs.Leaves.{follows_push}
use Rattle.hpr_forest.proofs.CutStates.{IsNext, next_of, none_of, not_true, true_not_false}
use Rattle.hpr_forest.proofs.FirstLeaf.{all_at_start, clear_at, first_at, goes_on, none_at_all}
use Rattle.hpr_forest.proofs.first.walk_to_clash.Goals as goal

pub walk-init : goal.walk-init
walk-init g c =
    let search = g.T.Backtracking in
    let s = c.args.search.now in
    let can = search.can s in
    let n = search.size s in (
      g.met.T.Backtracking.same_self s,
      subst (Follows can []) (sym c.requires.first) tt,
      omega (arith, ap length c.requires.first, c.requires.size),
      all_at_start can (search.fits s) n (search.clash s) c.requires.choices c.requires.live (search.placed s) c.requires.first c.requires.size,
    )

pub returns-in_default-clause-none : goal.returns-in_default-clause-none
returns-in_default-clause-none g c =
    let search = g.T.Backtracking in
    let laws = g.met.T.Backtracking in
    let first = c.args.search.now in
    let now = c.walk.search in
    let can = search.can first in
    let fits = search.fits first in
    let n = search.size first in
    let clash = search.clash first in
    let it = c.requires.choices in
    let live = c.requires.live in
    let q = search.placed now in
    let same = c.walk.invariant.0 in
    let same_can : can ≡ search.can now = laws.same_can first now same in
    none_at_all can fits n clash it live q c.walk.invariant.1 c.walk.invariant.2
    (none_of can fits n clash it live (search.can now) (search.size now) same_can (laws.same_size first now same) q 0 c.in_default.ensures.none)
    c.walk.invariant.3

pub returns-then-not-admissible-clause-leaf : goal.returns-then-not-admissible-clause-leaf
returns-then-not-admissible-clause-leaf g c =
    let search = g.T.Backtracking in
    let laws = g.met.T.Backtracking in
    let first = c.args.search.now in
    let now = c.walk.search in
    let can = search.can first in
    let fits = search.fits first in
    let n = search.size first in
    let clash = search.clash first in
    let it = c.requires.choices in
    let live = c.requires.live in
    let q = search.placed now in
    let same = c.walk.invariant.0 in
    let same_can : can ≡ search.can now = laws.same_can first now same in
    let d = c.in-Some.child in
    let next : IsNext can fits n clash it live q 0 d =
    next_of can fits n clash it live (search.can now) same_can q 0 d c.in-Some.ensures.from c.in-Some.ensures.ready c.in-Some.ensures.least in
    first_at can fits n clash it live q d next (ap (λ f. f q d) (laws.same_clash first now same) ∙ c.if-not-admissible.ensures.only refl) c.walk.invariant.3

pub returns-then-count-size-clause-none : goal.returns-then-count-size-clause-none
returns-then-count-size-clause-none g c =
    let search = g.T.Backtracking in
    let laws = g.met.T.Backtracking in
    let first = c.args.search.now in
    let now = c.walk.search in
    let can = search.can first in
    let fits = search.fits first in
    let n = search.size first in
    let clash = search.clash first in
    let it = c.requires.choices in
    let live = c.requires.live in
    let q = search.placed now in
    let same = c.walk.invariant.0 in
    let same_can : can ≡ search.can now = laws.same_can first now same in
    let d = c.in-Some.child in
    let next : IsNext can fits n clash it live q 0 d =
    next_of can fits n clash it live (search.can now) same_can q 0 d c.in-Some.ensures.from c.in-Some.ensures.ready c.in-Some.ensures.least in
    let free : clash q d ≡ false =
    not_true (clash q d) (λ e. true_not_false (c.if-not-admissible.ensures.clash (sym (ap (λ f. f q d) (laws.same_clash first now same)) ∙ e))) in
    let more = c.place.ensures.placed in
    let len : length (search.placed c.place.new.self) ≡ length q + 1 = omega (arith, ap length more, length-append q (d ∷ [])) in
    clear_at can fits n clash it live q d (omega (arith, len, c.if-count-size.true, c.count.ensures, c.size-size.ensures)) next free c.walk.invariant.3

pub walk-preserved : goal.walk-preserved
walk-preserved g c =
    let search = g.T.Backtracking in
    let laws = g.met.T.Backtracking in
    let first = c.args.search.now in
    let now = c.walk.search in
    let can = search.can first in
    let fits = search.fits first in
    let n = search.size first in
    let clash = search.clash first in
    let it = c.requires.choices in
    let live = c.requires.live in
    let q = search.placed now in
    let same = c.walk.invariant.0 in
    let same_can : can ≡ search.can now = laws.same_can first now same in
    let d = c.in-Some.child in
    let next : IsNext can fits n clash it live q 0 d =
    next_of can fits n clash it live (search.can now) same_can q 0 d c.in-Some.ensures.from c.in-Some.ensures.ready c.in-Some.ensures.least in
    let free : clash q d ≡ false =
    not_true (clash q d) (λ e. true_not_false (c.if-not-admissible.ensures.clash (sym (ap (λ f. f q d) (laws.same_clash first now same)) ∙ e))) in
    let more = c.place.ensures.placed in
    let len : length (search.placed c.place.new.self) ≡ length q + 1 = omega (arith, ap length more, length-append q (d ∷ [])) in
    let short : length q + 1 < n = omega (arith, len, c.walk.invariant.2, c.if-count-size.false, c.count.ensures, c.size-size.ensures) in (
      laws.same_then first now c.place.new.self same c.place.ensures.same,
      subst (Follows can []) (sym more) (follows_push can n [] q d c.walk.invariant.1 next.1),
      omega (arith, len, short),
      goes_on can fits n clash it live q (search.placed c.place.new.self) d next free short more c.walk.invariant.3,
    )
