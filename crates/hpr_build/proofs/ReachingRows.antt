-- The rows of the definitions that reach each use.
use Rattle.std.proofs.Common.{◌≡◌, ℕ, Bool, IsTrue, ◌⊎◌, zero, suc, ◌+◌, ◌<◌, Some, List, [], ◌∷◌, ◌++◌, Vec, Global, length, take, get_or, Contains, slice_get, ◌↔◌, inl, inr, refl, sym, ap, ◌∙◌, subst, arith}
use Rattle.std.specs.List.Sorted.{IsStrictlyIncreasing}
use Rattle.std.proofs.lemmas.List.{take_more, length-take-le, get_or_default}
use Rattle.std.proofs.lemmas.Option.{slice_get_within}
use Rattle.hpr_terms.proofs.Facts.{at_push, at_end}
use Rattle.std.proofs.lemmas.Bool.{cases_eq}
use Rattle.hpr_search.specs.Marks.{IsMarked}
use Rattle.hpr_paths.specs.Spots.{Spot}
use Rattle.hpr_reach.specs.Reaches.{Reaches}
use Rattle.hpr_build.specs.Reaching.{AreReached, AreReaching, IsSourceBelow}
use Rattle.hpr_build.specs.Variables.{points_of, points_at}

module _ (spots : List Spot) (x : List ℕ) (definitions users : List ℕ) where
  -- the row of one use
  abbrev pub IsReaching : ℕ → List ℕ → Type 0
  IsReaching u row = IsStrictlyIncreasing row × ((p : ℕ) → Contains row p ↔ (Contains definitions p × Reaches spots x [] p u))

  -- one use more
  pub one_use_more : (i u : ℕ) (rows rows' : List (Vec ℕ Global)) (row : Vec ℕ Global) → i < length users → u ≡ get_or users i u → length rows ≡ i → rows' ≡ rows ++ row ∷ []
      → AreReaching spots x definitions (take i users) rows → IsReaching u row.items → AreReaching spots x definitions (take (i + 1) users) rows'
  one_use_more i u rows rows' row l is size more before here k w at =
      let taken : take (i + 1) users ≡ take i users ++ u ∷ [] = take_more users i u l ∙ ap (λ (n : ℕ). take i users ++ n ∷ []) (sym is) in
      let count : length (take i users) ≡ i = length-take-le i users (omega (arith, l)) in
      elim (at_push (take i users) u k w (subst (λ (us : List ℕ). slice_get us k ≡ Some w) taken at)) [
        | inl was ↦
            (let low = slice_get_within (take i users) k w was in
            let same : points_at rows' k ≡ points_at rows k = ap (λ (rs : List (Vec ℕ Global)). points_at rs k) more ∙ older rows k (omega (arith, low, count, size)) in
            subst (λ (ps : List ℕ). IsReaching w ps) (sym same) (before k w was))
        | inr (end, e) ↦
            (let last : k ≡ length rows = omega (arith, end, count, size) in
            let new : points_at rows' k ≡ row.items =
            ap (λ (rs : List (Vec ℕ Global)). points_at rs k) more ∙ ap (λ (n : ℕ). points_at (rows ++ row ∷ []) n) last ∙ ap points_of (at_end rows row) in
            subst (λ (ps : List ℕ). IsReaching w ps) (sym new) (subst (λ (n : ℕ). IsReaching n row.items) e here))
      ]
    where
      older : (rs : List (Vec ℕ Global)) (n : ℕ) → n < length rs → points_at (rs ++ row ∷ []) n ≡ points_at rs n
      older [] n low = absurd (omega (arith, low))
      older (r ∷ rs) zero low = refl
      older (r ∷ rs) (suc n) low = older rs n (omega (arith, low))

-- the row of a use as the code reads it
pub row_reaching : (spots : List Spot) (x : List ℕ) (definitions users : List ℕ) (rows read : List (Vec ℕ Global)) (k u : ℕ) (row : List ℕ) → AreReaching spots x definitions users rows → read ≡ rows → slice_get users k ≡ Some u → row ≡ points_at read k
    → IsStrictlyIncreasing row × ((p : ℕ) → Contains row p ↔ (Contains definitions p × Reaches spots x [] p u))
row_reaching spots x definitions users rows read k u row are same at is =
    subst (λ (ps : List ℕ). IsStrictlyIncreasing ps × ((p : ℕ) → Contains ps p ↔ (Contains definitions p × Reaches spots x [] p u)))
    (sym (is ∙ ap (λ (rs : List (Vec ℕ Global)). points_at rs k) same)) (are k u at)

-- the points whose rows mark a user, one point more
pub source_more : (points : List ℕ) (rows : List (List Bool)) (user at : ℕ) (row : List Bool) (test : Bool) (A A' : ℕ → Type 0)
    → row ≡ get_or rows at [] → IsTrue test ↔ IsMarked row user → ((p : ℕ) → A p ↔ IsSourceBelow at points rows user p)
    → ((p : ℕ) → A' p ↔ (A p ⊎ (IsTrue test × (get_or points at 0 ≡ p)))) → (p : ℕ) → A' p ↔ IsSourceBelow (at + 1) points rows user p
source_more points rows user at row test A A' is tests before new p = (
  (λ h. elim ((new p).0 h) [
    | inl was ↦ (let (i, l, e, m) = (before p).0 was in (i, omega (arith, l), e, m))
    | inr (t, e) ↦ (at, omega arith, e, subst (λ (r : List Bool). IsMarked r user) is (tests.0 t))
  ]),
  (λ (i, l, e, m). elim (cases_eq i at) [
    | inl same ↦
        (let here : IsMarked (get_or rows at []) user = subst (λ (k : ℕ). IsMarked (get_or rows k []) user) same m in
        (new p).1 (inr (tests.1 (subst (λ (r : List Bool). IsMarked r user) (sym is) here), sym (ap (λ (k : ℕ). get_or points k 0) same) ∙ e)))
    | inr ne ↦ (new p).1 (inl ((before p).1 (i, omega (arith, l, ne), e, m)))
  ]),
)

pub source_whole : (points : List ℕ) (rows : List (List Bool)) (user n m p : ℕ) → n ≡ m → IsSourceBelow n points rows user p
    → IsSourceBelow m points rows user p
source_whole points rows user n m p same (i, l, e, k) = (i, omega (arith, l, same), e, k)

-- the definitions that searches find to reach a use
pub reaching_searched : (spots : List Spot) (x : List ℕ) (definitions : List ℕ) (rows : List (List Bool)) (user : ℕ) (row : List ℕ)
    → AreReached spots x definitions rows
    → ((p : ℕ) → Contains row p ↔ IsSourceBelow (length definitions) definitions rows user p) → (p : ℕ)
    → Contains row p ↔ (Contains definitions p × Reaches spots x [] p user)
reaching_searched spots x definitions rows user row are exact p = (
  (λ h.
      let (i, l, e, m) = (exact p).0 h in
      let there : get_or definitions i p ≡ p = get_or_default definitions i p 0 l ∙ e in
      ((i, l, there), subst (λ (q : ℕ). Reaches spots x [] q user) e ((are i l user).0 m))),
  (λ (has, r).
      let (i, l, e) = has in
      let there : get_or definitions i 0 ≡ p = get_or_default definitions i 0 p l ∙ e in
      (exact p).1 (i, l, there, (are i l user).1 (subst (λ (q : ℕ). Reaches spots x [] q user) (sym there) r))),
)
