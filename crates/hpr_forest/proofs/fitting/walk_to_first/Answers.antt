use Rattle.std.proofs.Common.{◌≡◌, ℕ, ◌+◌, ◌-◌, ◌<◌, true, List, [], ◌∷◌, ◌++◌, length, length-append, refl, sym, ap, subst, ◌∙◌, arith}
use Rattle.std.proofs.lemmas.Result.{IfOk-from_err}
use Rattle.hpr_forest.specs.Choices.{Follows, IsWhole}
use Rattle.hpr_forest.specs.Cuts.{FindsFirst, IsAmongFirst}
use Rattle.hpr_forest.proofs.Leaves.{popped, follows_push}
use Rattle.hpr_forest.proofs.CutStates.{State, IsNext, next_of, none_of, taken_back, start_state, looked_past, pop_state, given_up, down_state, judged, whole_next, first_state, spent_state, none_state, tried_state, true_not_false, not_true, fewer_tries, fewer_down, fewer_up}
use Rattle.hpr_forest.proofs.Spending.{Spends, ends, few_left, finds, gives_up, goes_down, judges, pops, starts}
use Rattle.hpr_forest.proofs.fitting.walk_to_first.Goals as goal

pub walk-init : goal.walk-init
walk-init g c =
    let search = g.T.Backtracking in
    let s = c.args.search.now in
    let can = search.can s in
    let n = search.size s in (
      g.met.T.Backtracking.same_self s,
      subst (Follows can []) (sym c.requires.first) tt,
      omega (arith, ap length c.requires.first, c.requires.size),
      start_state can (search.fits s) n (search.clash s) c.requires.choices c.requires.live c.args.tries (search.placed s) c.requires.first c.requires.size,
      starts can n (search.clash s) c.args.tries (search.placed s) c.requires.first c.requires.size,
    )

pub returns-in_default-take_back-clause-none : goal.returns-in_default-take_back-clause-none
returns-in_default-take_back-clause-none g c =
    let search = g.T.Backtracking in
    let laws = g.met.T.Backtracking in
    let first = c.args.search.now in
    let now = c.walk.search in
    let can = search.can first in
    let fits = search.fits first in
    let n = search.size first in
    let clash = search.clash first in
    let it = c.requires.choices in
    let live = c.requires.live in
    let q = search.placed now in
    let same = c.walk.invariant.0 in
    let state = c.walk.invariant.3 in
    let same_can : can ≡ search.can now = laws.same_can first now same in
    let none = none_of can fits n clash it live (search.can now) (search.size now) same_can (laws.same_size first now same) q c.walk.from c.in_default.ensures.none in
    none_state can fits n clash it live c.args.tries c.walk.left q c.walk.from c.in_default-take_back.ensures.none none state

pub returns-in_default-take_back-clause-none_all : goal.returns-in_default-take_back-clause-none_all
returns-in_default-take_back-clause-none_all g c =
    let search = g.T.Backtracking in
    let laws = g.met.T.Backtracking in
    let first = c.args.search.now in
    let now = c.walk.search in
    let can = search.can first in
    let fits = search.fits first in
    let n = search.size first in
    let clash = search.clash first in
    let it = c.requires.choices in
    let live = c.requires.live in
    let q = search.placed now in
    let same = c.walk.invariant.0 in
    let spends = c.walk.invariant.4 in
    let same_can : can ≡ search.can now = laws.same_can first now same in
    let none = none_of can fits n clash it live (search.can now) (search.size now) same_can (laws.same_size first now same) q c.walk.from c.in_default.ensures.none in
    ends can n clash c.args.tries c.walk.left (c.args.tries - c.walk.left) q c.walk.from c.in_default-take_back.ensures.none none refl spends

pub returns-in_default-take_back-clause-none_tries : goal.returns-in_default-take_back-clause-none_tries
returns-in_default-take_back-clause-none_tries g c = omega arith

pub overflow_add-from : goal.overflow_add-from
overflow_add-from g c =
    let search = g.T.Backtracking in
    let first = c.args.search.now in
    let now = c.walk.search in
    let can = search.can first in
    let n = search.size first in
    let it = c.requires.choices in
    let q = search.placed now in
    let follows = c.walk.invariant.1 in
    let last = c.in-Some-take_back.last in
    let q' = search.placed c.take_back.new.self in
    let p = popped can n q q' last it follows c.in-Some-take_back.ensures.last (omega arith) in
    let small : last < n = p.2 in
    omega (arith, small, c.size-size.ensures)

pub walk-smaller-in_default : goal.walk-smaller-in_default
walk-smaller-in_default g c =
    let search = g.T.Backtracking in
    let laws = g.met.T.Backtracking in
    let first = c.args.search.now in
    let now = c.walk.search in
    let can = search.can first in
    let fits = search.fits first in
    let n = search.size first in
    let clash = search.clash first in
    let it = c.requires.choices in
    let live = c.requires.live in
    let q = search.placed now in
    let same = c.walk.invariant.0 in
    let follows = c.walk.invariant.1 in
    let short = c.walk.invariant.2 in
    let same_can : can ≡ search.can now = laws.same_can first now same in
    let last = c.in-Some-take_back.last in
    let q' = search.placed c.take_back.new.self in
    let none = none_of can fits n clash it live (search.can now) (search.size now) same_can (laws.same_size first now same) q c.walk.from c.in_default.ensures.none in
    fewer_up n c.walk.left (length q) (length q') c.walk.from last (omega (arith, ap length c.in-Some-take_back.ensures.last, length-append q' (last ∷ []))) (looked_past can fits n clash it live q q' last c.walk.from c.in-Some-take_back.ensures.last follows short none)

pub walk-preserved-in_default : goal.walk-preserved-in_default
walk-preserved-in_default g c =
    let search = g.T.Backtracking in
    let laws = g.met.T.Backtracking in
    let first = c.args.search.now in
    let now = c.walk.search in
    let can = search.can first in
    let fits = search.fits first in
    let n = search.size first in
    let clash = search.clash first in
    let it = c.requires.choices in
    let live = c.requires.live in
    let q = search.placed now in
    let same = c.walk.invariant.0 in
    let follows = c.walk.invariant.1 in
    let state = c.walk.invariant.3 in
    let same_can : can ≡ search.can now = laws.same_can first now same in
    let last = c.in-Some-take_back.last in
    let q' = search.placed c.take_back.new.self in
    let p = popped can n q q' last it follows c.in-Some-take_back.ensures.last (omega arith) in
    let none = none_of can fits n clash it live (search.can now) (search.size now) same_can (laws.same_size first now same) q c.walk.from c.in_default.ensures.none in (
      laws.same_then first now c.take_back.new.self same c.in-Some-take_back.ensures.same,
      p.0,
      omega (arith, p.1),
      pop_state can fits n clash it live c.args.tries c.walk.left q q' last c.walk.from c.in-Some-take_back.ensures.last none state,
      pops can n clash c.args.tries c.walk.left q q' last c.walk.from c.in-Some-take_back.ensures.last none c.walk.invariant.4,
    )

pub returns-then-left-eq0-clause-spent : goal.returns-then-left-eq0-clause-spent
returns-then-left-eq0-clause-spent g c =
    let search = g.T.Backtracking in
    let laws = g.met.T.Backtracking in
    let first = c.args.search.now in
    let now = c.walk.search in
    let can = search.can first in
    let fits = search.fits first in
    let n = search.size first in
    let clash = search.clash first in
    let it = c.requires.choices in
    let live = c.requires.live in
    let q = search.placed now in
    let same = c.walk.invariant.0 in
    let follows = c.walk.invariant.1 in
    let short = c.walk.invariant.2 in
    let state = c.walk.invariant.3 in
    let same_can : can ≡ search.can now = laws.same_can first now same in
    let d = c.in-Some.child in
    let next : IsNext can fits n clash it live q c.walk.from d = next_of can fits n clash it live (search.can now) same_can q c.walk.from d c.in-Some.ensures.from c.in-Some.ensures.ready c.in-Some.ensures.least in
    λ is. spent_state can fits n clash it live c.args.tries c.walk.left q c.walk.from d follows short next c.if-left-eq0.true state

pub walk-smaller-then-not-admissible : goal.walk-smaller-then-not-admissible
walk-smaller-then-not-admissible g c =
    let search = g.T.Backtracking in
    let first = c.args.search.now in
    let now = c.walk.search in
    let n = search.size first in
    let q = search.placed now in
    let short = c.walk.invariant.2 in
    fewer_tries n c.walk.left (c.walk.left - 1) (length q) (length q) c.walk.from (c.in-Some.child + 1) (omega (arith, c.if-left-eq0.false)) short

pub walk-preserved-then-not-admissible : goal.walk-preserved-then-not-admissible
walk-preserved-then-not-admissible g c =
    let search = g.T.Backtracking in
    let laws = g.met.T.Backtracking in
    let first = c.args.search.now in
    let now = c.walk.search in
    let can = search.can first in
    let fits = search.fits first in
    let n = search.size first in
    let clash = search.clash first in
    let it = c.requires.choices in
    let live = c.requires.live in
    let q = search.placed now in
    let same = c.walk.invariant.0 in
    let follows = c.walk.invariant.1 in
    let short = c.walk.invariant.2 in
    let state = c.walk.invariant.3 in
    let same_can : can ≡ search.can now = laws.same_can first now same in
    let d = c.in-Some.child in
    let next : IsNext can fits n clash it live q c.walk.from d = next_of can fits n clash it live (search.can now) same_can q c.walk.from d c.in-Some.ensures.from c.in-Some.ensures.ready c.in-Some.ensures.least in (
      same,
      follows,
      short,
      given_up can fits n clash it live c.args.tries c.walk.left (c.walk.left - 1) q c.walk.from d follows short next
          (λ l r whole is yes_. c.if-not-admissible.ensures.law refl l r (subst (λ f. IsWhole f (search.size now) l) same_can (subst (λ m. IsWhole can m l) (laws.same_size first now same) whole)) is (laws.same_fits first now same l yes_))
          (omega (arith, c.if-left-eq0.false)) state,
      gives_up can n clash fits it live c.args.tries c.walk.left (c.walk.left - 1) q c.walk.from d next
          (ap (λ f. f q d) (laws.same_clash first now same) ∙ c.if-not-admissible.ensures.only refl) (omega (arith, c.if-left-eq0.false)) c.walk.invariant.4,
    )

pub walk-smaller-then-count-size : goal.walk-smaller-then-count-size
walk-smaller-then-count-size g c =
    let search = g.T.Backtracking in
    let first = c.args.search.now in
    let now = c.walk.search in
    let n = search.size first in
    let q = search.placed now in
    let short = c.walk.invariant.2 in
    let more = c.place.ensures.placed in
    fewer_down n c.walk.left (length q) (length (search.placed c.place.new.self)) c.walk.from (omega (arith, ap length more, length-append q (c.in-Some.child ∷ []))) short

pub walk-preserved-then-count-size : goal.walk-preserved-then-count-size
walk-preserved-then-count-size g c =
    let search = g.T.Backtracking in
    let laws = g.met.T.Backtracking in
    let first = c.args.search.now in
    let now = c.walk.search in
    let can = search.can first in
    let fits = search.fits first in
    let n = search.size first in
    let clash = search.clash first in
    let it = c.requires.choices in
    let live = c.requires.live in
    let q = search.placed now in
    let same = c.walk.invariant.0 in
    let follows = c.walk.invariant.1 in
    let state = c.walk.invariant.3 in
    let same_can : can ≡ search.can now = laws.same_can first now same in
    let d = c.in-Some.child in
    let next : IsNext can fits n clash it live q c.walk.from d = next_of can fits n clash it live (search.can now) same_can q c.walk.from d c.in-Some.ensures.from c.in-Some.ensures.ready c.in-Some.ensures.least in
    let free : clash q d ≡ true → ⊥ = (λ e. true_not_false (c.if-not-admissible.ensures.clash (sym (ap (λ f. f q d) (laws.same_clash first now same)) ∙ e))) in
    let more = c.place.ensures.placed in
    let len : length (search.placed c.place.new.self) ≡ length q + 1 = omega (arith, ap length more, length-append q (d ∷ [])) in (
      laws.same_then first now c.place.new.self same c.place.ensures.same,
      subst (Follows can []) (sym more) (follows_push can n [] q d follows next.1),
      omega (arith, c.if-count-size.true, c.count.ensures, c.size-size.ensures),
      down_state can fits n clash it live c.args.tries c.walk.left q (search.placed c.place.new.self) c.walk.from d next free
          (omega (arith, len, c.if-count-size.true, c.count.ensures, c.size-size.ensures)) more state,
      goes_down can n clash fits it live c.args.tries c.walk.left q (search.placed c.place.new.self) c.walk.from d next (not_true (clash q d) free)
          (omega (arith, len, c.if-count-size.true, c.count.ensures, c.size-size.ensures)) more c.walk.invariant.4,
    )

pub judge-requires : goal.judge-requires
judge-requires g c =
    let search = g.T.Backtracking in
    let laws = g.met.T.Backtracking in
    let first = c.args.search.now in
    let now = c.walk.search in
    let can = search.can first in
    let fits = search.fits first in
    let n = search.size first in
    let clash = search.clash first in
    let it = c.requires.choices in
    let live = c.requires.live in
    let q = search.placed now in
    let same = c.walk.invariant.0 in
    let follows = c.walk.invariant.1 in
    let short = c.walk.invariant.2 in
    let same_can : can ≡ search.can now = laws.same_can first now same in
    let d = c.in-Some.child in
    let next : IsNext can fits n clash it live q c.walk.from d = next_of can fits n clash it live (search.can now) same_can q c.walk.from d c.in-Some.ensures.from c.in-Some.ensures.ready c.in-Some.ensures.least in
    let more = c.place.ensures.placed in
    let len : length (search.placed c.place.new.self) ≡ length q + 1 = omega (arith, ap length more, length-append q (d ∷ [])) in
    let full : length q + 1 ≡ n = omega (arith, len, short, c.if-count-size.false, c.count.ensures, c.size-size.ensures) in
    let now' = c.place.new.self in
    let same' = laws.same_then first now now' same c.place.ensures.same in
    let whole : IsWhole can n (search.placed now') = subst (IsWhole can n) (sym more) (whole_next can fits n clash it live q c.walk.from d follows full next) in
    record { sound = laws.same_sound first now' same' c.requires.sound; whole = subst (λ f. IsWhole f (search.size now') (search.placed now')) (laws.same_can first now' same') (subst (λ m. IsWhole can m (search.placed now')) (laws.same_size first now' same') whole) }

pub returns-then-branch-clause-first : goal.returns-then-branch-clause-first
returns-then-branch-clause-first g c =
    let search = g.T.Backtracking in
    let laws = g.met.T.Backtracking in
    let first = c.args.search.now in
    let now = c.walk.search in
    let can = search.can first in
    let fits = search.fits first in
    let n = search.size first in
    let clash = search.clash first in
    let it = c.requires.choices in
    let live = c.requires.live in
    let q = search.placed now in
    let same = c.walk.invariant.0 in
    let follows = c.walk.invariant.1 in
    let short = c.walk.invariant.2 in
    let state = c.walk.invariant.3 in
    let same_can : can ≡ search.can now = laws.same_can first now same in
    let d = c.in-Some.child in
    let next : IsNext can fits n clash it live q c.walk.from d = next_of can fits n clash it live (search.can now) same_can q c.walk.from d c.in-Some.ensures.from c.in-Some.ensures.ready c.in-Some.ensures.least in
    let more = c.place.ensures.placed in
    let len : length (search.placed c.place.new.self) ≡ length q + 1 = omega (arith, ap length more, length-append q (d ∷ [])) in
    let full : length q + 1 ≡ n = omega (arith, len, short, c.if-count-size.false, c.count.ensures, c.size-size.ensures) in
    let now' = c.place.new.self in
    let same' = laws.same_then first now now' same c.place.ensures.same in
    let fit : fits (search.placed now') = laws.same_fits now' first (laws.same_turned first now' same') (search.placed now') (c.in_ok-judge.ensures.0 c.if-branch.true) in
    subst (λ (x : List ℕ). FindsFirst can fits n clash x) (sym more)
    (first_state can fits n clash it live c.args.tries c.walk.left q c.walk.from d follows full next (subst fits more fit) state)

pub returns-then-branch-clause-first_within : goal.returns-then-branch-clause-first_within
returns-then-branch-clause-first_within g c =
    let search = g.T.Backtracking in
    let laws = g.met.T.Backtracking in
    let first = c.args.search.now in
    let now = c.walk.search in
    let can = search.can first in
    let fits = search.fits first in
    let n = search.size first in
    let clash = search.clash first in
    let it = c.requires.choices in
    let live = c.requires.live in
    let q = search.placed now in
    let same = c.walk.invariant.0 in
    let follows = c.walk.invariant.1 in
    let short = c.walk.invariant.2 in
    let spends = c.walk.invariant.4 in
    let same_can : can ≡ search.can now = laws.same_can first now same in
    let d = c.in-Some.child in
    let next : IsNext can fits n clash it live q c.walk.from d = next_of can fits n clash it live (search.can now) same_can q c.walk.from d c.in-Some.ensures.from c.in-Some.ensures.ready c.in-Some.ensures.least in
    let more = c.place.ensures.placed in
    let len : length (search.placed c.place.new.self) ≡ length q + 1 = omega (arith, ap length more, length-append q (d ∷ [])) in
    let full : length q + 1 ≡ n = omega (arith, len, short, c.if-count-size.false, c.count.ensures, c.size-size.ensures) in
    let tried = c.args.tries - c.walk.left + 1 in
    subst (λ (x : List ℕ). IsAmongFirst can n clash tried x) (sym more)
    (finds can n clash fits it live c.args.tries c.walk.left tried q c.walk.from d full next refl spends)

pub returns-then-branch-clause-first_least : goal.returns-then-branch-clause-first_least
returns-then-branch-clause-first_least g c =
    let search = g.T.Backtracking in
    let laws = g.met.T.Backtracking in
    let first = c.args.search.now in
    let now = c.walk.search in
    let can = search.can first in
    let fits = search.fits first in
    let n = search.size first in
    let clash = search.clash first in
    let it = c.requires.choices in
    let live = c.requires.live in
    let q = search.placed now in
    let follows = c.walk.invariant.1 in
    let short = c.walk.invariant.2 in
    let state = c.walk.invariant.3 in
    let same_can : can ≡ search.can now = laws.same_can first now c.walk.invariant.0 in
    let d = c.in-Some.child in
    let next : IsNext can fits n clash it live q c.walk.from d =
    next_of can fits n clash it live (search.can now) same_can q c.walk.from d c.in-Some.ensures.from c.in-Some.ensures.ready c.in-Some.ensures.least in
    tried_state can fits n clash it live c.args.tries c.walk.left (c.args.tries - c.walk.left + 1 - 1) q c.walk.from d follows short next (omega arith) state

pub returns-then-branch-clause-first_tries : goal.returns-then-branch-clause-first_tries
returns-then-branch-clause-first_tries g c =
    let search = g.T.Backtracking in
    let first = c.args.search.now in
    let few = few_left (search.can first) (search.size first) (search.clash first) c.args.tries c.walk.left (search.placed c.walk.search) c.walk.from c.walk.invariant.4 in
    omega (arith, few, c.if-left-eq0.false)

pub walk-smaller : goal.walk-smaller
walk-smaller g c =
    let search = g.T.Backtracking in
    let first = c.args.search.now in
    let now = c.walk.search in
    let n = search.size first in
    let q = search.placed now in
    let short = c.walk.invariant.2 in
    let more = c.place.ensures.placed in
    let back : search.placed c.take_back-in-walk.new.self ≡ q = taken_back c.take_back-in-walk.result (search.placed c.place.new.self) (search.placed c.take_back-in-walk.new.self) q c.in-Some.child
    c.take_back-in-walk.ensures.last c.take_back-in-walk.ensures.none more in
    fewer_tries n c.walk.left (c.walk.left - 1) (length q) (length (search.placed c.take_back-in-walk.new.self)) c.walk.from (c.in-Some.child + 1) (omega (arith, c.if-left-eq0.false)) (omega (arith, ap length back, short))

pub walk-preserved : goal.walk-preserved
walk-preserved g c =
    let search = g.T.Backtracking in
    let laws = g.met.T.Backtracking in
    let first = c.args.search.now in
    let now = c.walk.search in
    let can = search.can first in
    let fits = search.fits first in
    let n = search.size first in
    let clash = search.clash first in
    let it = c.requires.choices in
    let live = c.requires.live in
    let q = search.placed now in
    let same = c.walk.invariant.0 in
    let follows = c.walk.invariant.1 in
    let short = c.walk.invariant.2 in
    let state = c.walk.invariant.3 in
    let same_can : can ≡ search.can now = laws.same_can first now same in
    let d = c.in-Some.child in
    let next : IsNext can fits n clash it live q c.walk.from d = next_of can fits n clash it live (search.can now) same_can q c.walk.from d c.in-Some.ensures.from c.in-Some.ensures.ready c.in-Some.ensures.least in
    let more = c.place.ensures.placed in
    let len : length (search.placed c.place.new.self) ≡ length q + 1 = omega (arith, ap length more, length-append q (d ∷ [])) in
    let full : length q + 1 ≡ n = omega (arith, len, short, c.if-count-size.false, c.count.ensures, c.size-size.ensures) in
    let now' = c.place.new.self in
    let same' = laws.same_then first now now' same c.place.ensures.same in
    let after = c.take_back-in-walk.new.self in
    let back : search.placed after ≡ q = taken_back c.take_back-in-walk.result (search.placed now') (search.placed after) q d
    c.take_back-in-walk.ensures.last c.take_back-in-walk.ensures.none more in
    let misfit : ¬ fits (q ++ d ∷ []) = (λ yes_. true_not_false (sym (c.in_ok-judge.ensures.1 (laws.same_fits first now' same' (search.placed now') (subst fits (sym more) yes_))) ∙ c.if-branch.false)) in (
      laws.same_then first now' after same' c.take_back-in-walk.ensures.same,
      subst (Follows can []) (sym back) follows,
      omega (arith, ap length back, short),
      subst (λ (x : List ℕ). State can fits n clash c.args.tries (c.walk.left - 1) x (d + 1)) (sym back)
          (judged can fits n clash it live c.args.tries c.walk.left (c.walk.left - 1) q c.walk.from d follows full next misfit (omega (arith, c.if-left-eq0.false)) state),
      subst (λ (x : List ℕ). Spends can n clash c.args.tries (c.walk.left - 1) x (d + 1)) (sym back)
          (judges can n clash fits it live c.args.tries c.walk.left (c.walk.left - 1) q c.walk.from d full next (omega (arith, c.if-left-eq0.false)) c.walk.invariant.4),
    )

pub admissible-requires : goal.admissible-requires
admissible-requires g c = record { sound = g.met.T.Backtracking.same_sound c.args.search.now c.walk.search c.walk.invariant.0 c.requires.sound; ready = c.in-Some.ensures.ready }

pub returns-in_err-judge-clause-first : goal.returns-in_err-judge-clause-first
returns-in_err-judge-clause-first g c = IfOk-from_err c.from_residual.result _ c.from_residual.ensures.0

pub returns-in_err-judge-clause-none : goal.returns-in_err-judge-clause-none
returns-in_err-judge-clause-none g c = IfOk-from_err c.from_residual.result _ c.from_residual.ensures.0

pub returns-in_err-judge-clause-spent : goal.returns-in_err-judge-clause-spent
returns-in_err-judge-clause-spent g c = IfOk-from_err c.from_residual.result _ c.from_residual.ensures.0

pub returns-in_err-judge-clause-first_within : goal.returns-in_err-judge-clause-first_within
returns-in_err-judge-clause-first_within g c = IfOk-from_err c.from_residual.result _ c.from_residual.ensures.0

pub returns-in_err-judge-clause-first_least : goal.returns-in_err-judge-clause-first_least
returns-in_err-judge-clause-first_least g c = IfOk-from_err c.from_residual.result _ c.from_residual.ensures.0

pub returns-in_err-judge-clause-first_tries : goal.returns-in_err-judge-clause-first_tries
returns-in_err-judge-clause-first_tries g c = IfOk-from_err c.from_residual.result _ c.from_residual.ensures.0

pub returns-in_err-judge-clause-none_tries : goal.returns-in_err-judge-clause-none_tries
returns-in_err-judge-clause-none_tries g c = IfOk-from_err c.from_residual.result _ c.from_residual.ensures.0

pub returns-in_err-judge-clause-none_all : goal.returns-in_err-judge-clause-none_all
returns-in_err-judge-clause-none_all g c = IfOk-from_err c.from_residual.result _ c.from_residual.ensures.0
