-- What the tests of a clash say, by the tables alone.
use Rattle.std.proofs.Common.{◌≡◌, ℕ, ◌⊎◌, inl, inr, Bool, true, false, cond, eqb, Option, Some, None, List, [], ◌∷◌, ◌++◌, Contains, refl, sym, ap, ◌∙◌, subst}
use Rattle.std.proofs.lemmas.Bool.{eqb-true, eq-eqb}
use Rattle.hpr_terms.proofs.Facts.{in_none, in_cons, in_here, in_later}
use Rattle.hpr_forest.specs.Marks.{is_in}
use Rattle.hpr_region.specs.declared.flows.Flows.{Flows}
use Rattle.hpr_region.specs.Flows as flow

-- the parts of a chain of tests
pub four : (a b c d : Bool) → cond a (cond b (cond c false (cond d false true)) false) false ≡ true → (a ≡ true) × (b ≡ true) × (c ≡ false) × (d ≡ false)
four true true false false e = (refl, refl, refl, refl)
four true true false true e = absurd cc
four true true true d e = absurd cc
four true false c d e = absurd cc
four false b c d e = absurd cc

pub four_true : (a b c d : Bool) → a ≡ true → b ≡ true → c ≡ false → d ≡ false → cond a (cond b (cond c false (cond d false true)) false) false ≡ true
four_true a b c d ea eb ec ed =
    ap (λ z. cond z (cond b (cond c false (cond d false true)) false) false) ea ∙ ap (λ z. cond z (cond c false (cond d false true)) false) eb
    ∙ ap (λ z. cond z false (cond d false true)) ec ∙ ap (λ z. cond z false true) ed

pub three : (a b c : Bool) → cond a false (cond b false c) ≡ true → (a ≡ false) × (b ≡ false) × (c ≡ true)
three false false c e = (refl, refl, e)
three false true c e = absurd cc
three true b c e = absurd cc

pub three_true : (a b c : Bool) → a ≡ false → b ≡ false → c ≡ true → cond a false (cond b false c) ≡ true
three_true a b c ea eb ec = ap (λ z. cond z false (cond b false c)) ea ∙ ap (λ z. cond z false c) eb ∙ ec

pub both : (a b c : Bool) → cond a (cond b c false) false ≡ true → (a ≡ true) × (b ≡ true) × (c ≡ true)
both true true c e = (refl, refl, e)
both true false c e = absurd cc
both false b c e = absurd cc

pub both_true : (a b c : Bool) → a ≡ true → b ≡ true → c ≡ true → cond a (cond b c false) false ≡ true
both_true a b c ea eb ec = ap (λ z. cond z (cond b c false) false) ea ∙ ap (λ z. cond z c false) eb ∙ ec

pub either : (a b : Bool) → cond a true b ≡ true → (a ≡ true) ⊎ (b ≡ true)
either true b e = inl refl
either false b e = inr e

pub either_left : (a b : Bool) → a ≡ true → cond a true b ≡ true
either_left a b e = ap (λ z. cond z true b) e

pub either_right : (a b : Bool) → b ≡ true → cond a true b ≡ true
either_right true b e = refl
either_right false b e = e

pub never : (b : Bool) → b ≡ true → b ≡ false → ⊥
never b t f = absurd (let e : true ≡ false = sym t ∙ f in cc)

pub not_true : (b : Bool) → (b ≡ true → ⊥) → b ≡ false
not_true true h = absurd (h refl)
not_true false h = refl

pub is_in_in : (xs : List ℕ) (c : ℕ) → is_in xs c ≡ true → Contains xs c
is_in_in [] c e = absurd cc
is_in_in (x ∷ xs) c e = elim (either (eqb x c) (is_in xs c) e) [
  | inl same ↦ subst (Contains (x ∷ xs)) (eqb-true x c same) (in_here x xs)
  | inr later ↦ in_later x c xs (is_in_in xs c later)
]

-- a variable that a test finds
pub among_some : (v : Option ℕ) (xs : List ℕ) → flow.is_among v xs ≡ true → (r : ℕ) × (v ≡ Some r) × Contains xs r
among_some None xs e = absurd cc
among_some (Some r) xs e = (r, refl, is_in_in xs r e)

pub same_some : (u v : Option ℕ) → flow.same_variable u v ≡ true → (r : ℕ) × (u ≡ Some r) × (v ≡ Some r)
same_some None v e = absurd cc
same_some (Some x) None e = absurd cc
same_some (Some x) (Some y) e = (x, refl, ap Some (sym (eqb-true x y e)))

pub same_true : (u v : Option ℕ) (r : ℕ) → u ≡ Some r → v ≡ Some r → flow.same_variable u v ≡ true
same_true u v r eu ev = ap (λ z. flow.same_variable z v) eu ∙ ap (λ z. flow.same_variable (Some r) z) ev ∙ eq-eqb r r refl

module _ (f : Flows) where
  -- whether one of these defines the variable
  pub defined_some : (v : Option ℕ) (items : List ℕ) → flow.defined_in f v items ≡ true → (k : ℕ) × Contains items k × (flow.same_variable v (flow.variable_of f k) ≡ true)
  defined_some v [] e = absurd cc
  defined_some v (k ∷ items) e = elim (either (flow.same_variable v (flow.variable_of f k)) (flow.defined_in f v items) e) [
    | inl here ↦ (k, in_here k items, here)
    | inr later ↦ (let (j, h, is) = defined_some v items later in (j, in_later k j items h, is))
  ]

  pub some_defined : (v : Option ℕ) (items : List ℕ) (k : ℕ) → Contains items k → flow.same_variable v (flow.variable_of f k) ≡ true → flow.defined_in f v items ≡ true
  some_defined v [] k h e = absurd (in_none k h)
  some_defined v (j ∷ items) k h e = elim (in_cons j k items h) [
    | inl is ↦ either_left (flow.same_variable v (flow.variable_of f j)) (flow.defined_in f v items) (subst (λ z. flow.same_variable v (flow.variable_of f z) ≡ true) (sym is) e)
    | inr later ↦ either_right (flow.same_variable v (flow.variable_of f j)) (flow.defined_in f v items) (some_defined v items k later e)
  ]

  -- ---- wrong reach
  pub reach_found : (q : List ℕ) (c : ℕ) → flow.reached_wrongly f q c ≡ true → (front : List ℕ) × (d : ℕ) × (back : List ℕ) × (q ≡ front ++ d ∷ back) × (flow.reaches_wrongly f d back c ≡ true)
  reach_found [] c e = absurd cc
  reach_found (d ∷ back) c e = elim (either (flow.reaches_wrongly f d back c) (flow.reached_wrongly f back c) e) [
    | inl here ↦ ([], d, back, refl, here)
    | inr later ↦ (let (front, j, rest, is, h) = reach_found back c later in (d ∷ front, j, rest, ap (λ z. d ∷ z) is, h))
  ]

  pub found_reach : (front : List ℕ) (d : ℕ) (back : List ℕ) (c : ℕ) → flow.reaches_wrongly f d back c ≡ true → flow.reached_wrongly f (front ++ d ∷ back) c ≡ true
  found_reach [] d back c e = either_left (flow.reaches_wrongly f d back c) (flow.reached_wrongly f back c) e
  found_reach (k ∷ front) d back c e = either_right (flow.reaches_wrongly f k (front ++ d ∷ back) c) (flow.reached_wrongly f (front ++ d ∷ back) c) (found_reach front d back c e)

  -- ---- kill
  pub kill_found : (placed items : List ℕ) (c : ℕ) → flow.kills_one f placed items c ≡ true → (d : ℕ) × Contains items d × (flow.kills_of f placed c d ≡ true)
  kill_found placed [] c e = absurd cc
  kill_found placed (d ∷ items) c e = elim (either (flow.kills_of f placed c d) (flow.kills_one f placed items c) e) [
    | inl here ↦ (d, in_here d items, here)
    | inr later ↦ (let (j, h, is) = kill_found placed items c later in (j, in_later d j items h, is))
  ]

  pub found_kill : (placed items : List ℕ) (c d : ℕ) → Contains items d → flow.kills_of f placed c d ≡ true → flow.kills_one f placed items c ≡ true
  found_kill placed [] c d h e = absurd (in_none d h)
  found_kill placed (j ∷ items) c d h e = elim (in_cons j d items h) [
    | inl is ↦ either_left (flow.kills_of f placed c j) (flow.kills_one f placed items c) (subst (λ z. flow.kills_of f placed c z ≡ true) (sym is) e)
    | inr later ↦ either_right (flow.kills_of f placed c j) (flow.kills_one f placed items c) (found_kill placed items c d later e)
  ]

  pub left_found : (placed : List ℕ) (c : ℕ) (us : List ℕ) → flow.some_left f placed c us ≡ true → (u : ℕ) × Contains us u × (flow.is_left f placed c u ≡ true)
  left_found placed c [] e = absurd cc
  left_found placed c (u ∷ us) e = elim (either (flow.is_left f placed c u) (flow.some_left f placed c us) e) [
    | inl here ↦ (u, in_here u us, here)
    | inr later ↦ (let (j, h, is) = left_found placed c us later in (j, in_later u j us h, is))
  ]

  pub found_left : (placed : List ℕ) (c : ℕ) (us : List ℕ) (u : ℕ) → Contains us u → flow.is_left f placed c u ≡ true → flow.some_left f placed c us ≡ true
  found_left placed c [] u h e = absurd (in_none u h)
  found_left placed c (j ∷ us) u h e = elim (in_cons j u us h) [
    | inl is ↦ either_left (flow.is_left f placed c j) (flow.some_left f placed c us) (subst (λ z. flow.is_left f placed c z ≡ true) (sym is) e)
    | inr later ↦ either_right (flow.is_left f placed c j) (flow.some_left f placed c us) (found_left placed c us u later e)
  ]
