-- In a program a tag stands at most once, and only where it was issued.
use Rattle.std.proofs.Common.{◌≡◌, ℕ, ◌+◌, ◌≤◌, ◌<◌, ◌==◌, Bool, true, false, ◌||◌, ◌⊎◌, inl, inr, Option, Some, None, List, [], ◌∷◌, refl, sym, ap, arith, cond, subst, nat_lt}
use Rattle.std.specs.List.{list_any}
use Rattle.std.proofs.lemmas.Bool.{ltb-false, eqb-false}
use Rattle.hpr_terms.specs.declared.tag.Tag.{Tag}
use Rattle.hpr_terms.proofs.Facts.{or_right, or_false}
use Rattle.hpr_syntax.specs.Body.{Body, done, action, branch, loop}
use Rattle.hpr_syntax.specs.Parts.{same_tag, tags_of}
use Rattle.hpr_syntax.specs.Issued.{Issued, issued_to}
use Rattle.hpr_syntax.specs.Tree.{Tree}
use Rattle.hpr_syntax.specs.Shape.{IsProgram, first_repeated, first_repeated_tag, is_unissued, first_unissued}
use Rattle.hpr_syntax.proofs.NoRefusal.{no_refusal}
use Rattle.hpr_syntax.proofs.TagLemmas.{same_tag_itself, same_tag_is}
use Rattle.hpr_edit.specs.InPlace.{one_if, times}
use Rattle.hpr_edit.specs.Edited.{next_tag}

-- how often a tag is listed
abbrev pub count : Tag → List Tag → ℕ
count t [] = 0
count t (u ∷ us) = one_if (same_tag u t) + count t us

pub counted : (t : Tag) (b : Body) (ts : List Tag) → count t (tags_of b ts) ≡ times t b + count t ts
counted t done ts = omega arith
counted t (action u d rest) ts = omega (arith, counted t rest ts)
counted t (branch u e a b rest) ts =
    omega (arith, counted t a (tags_of b (tags_of rest ts)), counted t b (tags_of rest ts), counted t rest ts)
counted t (loop u e b rest) ts = omega (arith, counted t b (tags_of rest ts), counted t rest ts)

none_of : (b : Bool) (x : Tag) (o : Option Tag) → cond b (Some x) o ≡ None → (b ≡ false) × (o ≡ None)
none_of true x o h = absurd cc
none_of false x o h = (refl, h)

-- a tag stands once
at_most : (b : Bool) (u t : Tag) (seen : List Tag) (n : ℕ) → b ≡ same_tag u t → list_any (same_tag u) seen ≡ false → ((same_tag t u || list_any (same_tag t) seen) ≡ true → n ≡ 0) → n ≤ 1
    → (list_any (same_tag t) seen ≡ true → one_if b + n ≡ 0) × (one_if b + n ≤ 1)
at_most true u t seen n is new if_seen le =
    let e : u ≡ t = same_tag_is u t (sym is) in
    let s : (same_tag t u || list_any (same_tag t) seen) ≡ true = subst (λ y. (same_tag t y || list_any (same_tag t) seen) ≡ true) (sym e) (rw (same_tag_itself t) refl) in
    let z : n ≡ 0 = if_seen s in
    (λ h. let f : list_any (same_tag u) seen ≡ true = subst (λ y. list_any (same_tag y) seen ≡ true) (sym e) h in absurd cc, omega (arith, z))
at_most false u t seen n is new if_seen le = (λ h. omega (arith, if_seen (or_right (same_tag t u) _ h)), omega (arith, le))

once_each : (t : Tag) (seen ts : List Tag) → first_repeated same_tag seen ts ≡ None → (list_any (same_tag t) seen ≡ true → count t ts ≡ 0) × (count t ts ≤ 1)
once_each t seen [] h = (λ i. refl, omega arith)
once_each t seen (u ∷ us) h =
    let p : (list_any (same_tag u) seen ≡ false) × (first_repeated same_tag (u ∷ seen) us ≡ None) = none_of _ u _ h in
    let q : (list_any (same_tag t) (u ∷ seen) ≡ true → count t us ≡ 0) × (count t us ≤ 1) = once_each t (u ∷ seen) us p.1 in
    at_most (same_tag u t) u t seen (count t us) refl p.0 q.0 q.1

pub once : (p : Tree) → IsProgram p → (t : Tag) → times t p.body ≤ 1
once p is t = omega (arith, counted t p.body [], (once_each t [] (tags_of p.body []) (no_refusal p is.shape).tags).1)

-- and where each tag stands at most once, none is repeated
none_before : (b : Bool) (u : Tag) (seen : List Tag) (n : ℕ) → list_any (same_tag u) seen ≡ b → (b ≡ true → one_if (same_tag u u) + n ≡ 0) → b ≡ false
none_before true u seen n e h = absurd (let z : one_if (same_tag u u) + n ≡ 0 = h refl in omega (arith, z, ap one_if (same_tag_itself u)))
none_before false u seen n e h = refl

none_again : (b : Bool) (t u : Tag) (seen : List Tag) (n : ℕ) → same_tag t u ≡ b → one_if (same_tag u t) + n ≤ 1 → (list_any (same_tag t) seen ≡ true → one_if (same_tag u t) + n ≡ 0)
    → (b || list_any (same_tag t) seen) ≡ true → n ≡ 0
none_again true t u seen n e le h k =
    let is : same_tag u t ≡ true = subst (λ x. same_tag x t ≡ true) (same_tag_is t u e) (same_tag_itself t) in
    omega (arith, le, ap one_if is)
none_again false t u seen n e le h k = omega (arith, h k)

unrepeated : (seen ts : List Tag) → ((t : Tag) → count t ts ≤ 1) → ((t : Tag) → list_any (same_tag t) seen ≡ true → count t ts ≡ 0) → first_repeated same_tag seen ts ≡ None
unrepeated seen [] le h = refl
unrepeated seen (u ∷ us) le h =
    rw (none_before (list_any (same_tag u) seen) u seen (count u us) refl (h u))
    (unrepeated (u ∷ seen) us (λ t. omega (arith, le t)) (λ t k. none_again (same_tag t u) t u seen (count t us) refl (le t) (h t) k))

pub none_repeated : (b : Body) → ((t : Tag) → times t b ≤ 1) → first_repeated_tag b ≡ None
none_repeated b le = unrepeated [] (tags_of b []) (λ t. omega (arith, counted t b [], le t)) (λ t h. absurd cc)

-- a tag that is listed was issued
listed : (b : Bool) (u t : Tag) (n : ℕ) → b ≡ same_tag u t → 1 ≤ one_if b + n → (u ≡ t) ⊎ (1 ≤ n)
listed true u t n is h = inl (same_tag_is u t (sym is))
listed false u t n is h = inr (omega (arith, h))

issued_each : (issued : Issued) (ts : List Tag) (t : Tag) → first_unissued issued ts ≡ None → 1 ≤ count t ts → is_unissued issued t ≡ false
issued_each issued [] t h k = absurd (omega (arith, k))
issued_each issued (u ∷ us) t h k =
    let p : (is_unissued issued u ≡ false) × (first_unissued issued us ≡ None) = none_of _ u _ h in
    elim (listed (same_tag u t) u t (count t us) refl k) [
      | inl e ↦ subst (λ y. is_unissued issued y ≡ false) e p.0
      | inr m ↦ issued_each issued us t p.1 m
    ]

pub all_issued : (issued : Issued) (ts : List Tag) → ((t : Tag) → 1 ≤ count t ts → is_unissued issued t ≡ false) → first_unissued issued ts ≡ None
all_issued issued [] h = refl
all_issued issued (u ∷ us) h =
    rw (h u (rw (same_tag_itself u) (omega arith))) (all_issued issued us (λ t k. h t (omega (arith, k))))

pub issued_in : (p : Tree) → IsProgram p → (t : Tag) → 1 ≤ times t p.body → is_unissued p.issued t ≡ false
issued_in p is t k = issued_each p.issued (tags_of p.body []) t (no_refusal p is.shape).issued (omega (arith, k, counted t p.body []))

-- what it means
pub issued_bounds : (issued : Issued) (t : Tag) → is_unissued issued t ≡ false → (1 ≤ t.serial) × (t.serial ≤ issued_to t.author issued)
issued_bounds issued t h =
    let p : ((t.serial == 0) ≡ false) × (nat_lt (issued_to t.author issued) t.serial ≡ false) = or_false _ _ h in
    let ne : t.serial ≡ 0 → ⊥ = eqb-false t.serial 0 p.0 in
    (grind (arith, ne), ltb-false _ _ p.1)

none_stands : (p : Tree) → IsProgram p → (t : Tag) → issued_to t.author p.issued < t.serial → 1 ≤ times t p.body → ⊥
none_stands p is t lt k = omega (arith, lt, (issued_bounds p.issued t (issued_in p is t k)).1)

zero_or : (n : ℕ) → (1 ≤ n → ⊥) → n ≡ 0
zero_or n h = grind (arith, h)

-- no part has a tag that was not issued
pub not_issued : (p : Tree) → IsProgram p → (t : Tag) → issued_to t.author p.issued < t.serial → times t p.body ≡ 0
not_issued p is t lt = zero_or (times t p.body) (none_stands p is t lt)

pub next_is_new : (p : Tree) → IsProgram p → (author : ℕ) → times (next_tag author p.issued) p.body ≡ 0
next_is_new p is author = not_issued p is (next_tag author p.issued) (omega arith)
