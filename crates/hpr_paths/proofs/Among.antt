-- What lists have, by their structure; and that nothing is both true and false.
use Rattle.std.proofs.Common.{◌≡◌, zero, suc, Bool, true, false, List, [], ◌∷◌, ◌++◌, ◌⊎◌, Contains, refl, sym, subst, ◌∙◌, inl, inr, arith}
use Rattle.std.proofs.lemmas.List.Elements.{Contains-append_right}

-- m is an element of the list
pub data Among {M : Type 0} (m : M) : List M → Type 0 where
  here : {ms : List M} → Among m (m ∷ ms)
  there : {n : M} {ms : List M} → Among m ms → Among m (n ∷ ms)

pub among_front : {M : Type 0} {m : M} {ms : List M} (ns : List M) → Among m ms → Among m (ms ++ ns)
among_front ns here = here
among_front ns (there h) = there (among_front ns h)

pub among_left : {M : Type 0} {x : M} {xs : List M} (ys : List M) → Among x xs → Among x (xs ++ ys)
among_left ys here = here
among_left ys (there h) = there (among_left ys h)

pub among_right : {M : Type 0} {x : M} (xs : List M) {ys : List M} → Among x ys → Among x (xs ++ ys)
among_right [] h = h
among_right (x ∷ xs) h = there (among_right xs h)

pub among_cons : {M : Type 0} {x m : M} {ms : List M} → Among x (m ∷ ms) → (m ≡ x) ⊎ Among x ms
among_cons here = inl refl
among_cons (there h) = inr h

abbrev IsEmpty : {M : Type 0} → List M → Type 0
IsEmpty [] = Unit {0}
IsEmpty (x ∷ xs) = ⊥

among_none_by : {M : Type 0} {x : M} {ms : List M} → IsEmpty ms → Among x ms → ⊥
among_none_by n here = n
among_none_by n (there h) = n

pub among_none : {M : Type 0} (x : M) → ¬ Among x []
among_none x h = among_none_by tt h

pub among_append : {M : Type 0} {x : M} (xs ys : List M) → Among x (xs ++ ys) → Among x xs ⊎ Among x ys
among_append [] ys h = inr h
among_append {x = x} (y ∷ xs) ys h = go (λ g. among_append xs ys g) (among_cons h)
  where
    more : Among x xs ⊎ Among x ys → Among x (y ∷ xs) ⊎ Among x ys
    more (inl g) = inl (there g)
    more (inr g) = inr g

    go : (Among x (xs ++ ys) → Among x xs ⊎ Among x ys) → (y ≡ x) ⊎ Among x (xs ++ ys) → Among x (y ∷ xs) ⊎ Among x ys
    go f (inl e) = inl (subst (λ z. Among z (y ∷ xs)) e here)
    go f (inr g) = more (f g)

-- what is in a list by its place is in it by its structure
pub among_contains : {X : Type 0} (x : X) (xs : List X) → Contains xs x → Among x xs
among_contains x [] h = absurd (omega (arith, h.1))
among_contains {X} x (y ∷ xs) (zero, h, e) = subst (λ (z : X). Among z (y ∷ xs)) e here
among_contains x (y ∷ xs) (suc k, h, e) = there (among_contains x xs (k, omega arith, e))

pub contains_among : {X : Type 0} (x : X) (xs : List X) → Among x xs → Contains xs x
contains_among x _ (here {ms = xs}) = (0, omega arith, refl)
contains_among x _ (there {n = y} {ms = xs} h) = Contains-append_right (y ∷ []) xs x (contains_among x xs h)

abbrev Holds : Bool → Type 0
Holds true = Unit {0}
Holds false = ⊥

pub no_both : {A : Type 0} {e : Bool} → e ≡ true → e ≡ false → A
no_both p q = absurd (subst Holds (sym p ∙ q) tt)
