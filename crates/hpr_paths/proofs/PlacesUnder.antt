-- The places of a block under some turns, and in which of its blocks a place stands.
use Rattle.std.proofs.Common.{◌≡◌, ℕ, suc, Bool, List, [], ◌∷◌, ◌++◌, ◌⊎◌, ap, subst, inl, inr}
use Rattle.hpr_terms.specs.declared.tag.Tag.{Tag}
use Rattle.hpr_syntax.specs.Skeleton.{Skeleton, nil, act, fork, round, at, StandsIn, Distinct}
use Rattle.hpr_paths.specs.Times.{Place}
use Rattle.hpr_paths.proofs.Causes.{IsFirstOnTop, IsCalledBy}

-- the places of a block under the turns T
abbrev pub IsPlaceUnder : Skeleton → List ℕ → Place → Type 0
IsPlaceUnder nil T π = ⊥
IsPlaceUnder (act t k) T π = (π ≡ (t, T)) ⊎ IsPlaceUnder k T π
IsPlaceUnder (fork t b c k) T π = (π ≡ (t, T)) ⊎ (IsPlaceUnder b T π ⊎ (IsPlaceUnder c T π ⊎ IsPlaceUnder k T π))
IsPlaceUnder (round t b k) T π = ((j : ℕ) × (π ≡ (t, T ++ (j ∷ [])))) ⊎ (((j : ℕ) × IsPlaceUnder b (T ++ (j ∷ [])) π) ⊎ IsPlaceUnder k T π)

pub same_part : {a b : Place} → a ≡ b → a.0 ≡ b.0
same_part e = ap (λ (x : Place). x.0) e

pub same_turns : {a b : Place} → a ≡ b → a.1 ≡ b.1
same_turns e = ap (λ (x : Place). x.1) e

pub place_of : {a : Place} {t : Tag} {T : List ℕ} → a.0 ≡ t → a.1 ≡ T → a ≡ (t, T)
place_of e f = λ i. (e i, f i)

pub place_stands : (B : Skeleton) (T : List ℕ) (π : Place) → IsPlaceUnder B T π → StandsIn B (at π.0)
place_stands nil T π h = h
place_stands (act t k) T π (inl e) = inl (ap at (same_part e))
place_stands (act t k) T π (inr h) = inr (place_stands k T π h)
place_stands (fork t b c k) T π (inl e) = inl (ap at (same_part e))
place_stands (fork t b c k) T π (inr (inl h)) = inr (inl (place_stands b T π h))
place_stands (fork t b c k) T π (inr (inr (inl h))) = inr (inr (inl (place_stands c T π h)))
place_stands (fork t b c k) T π (inr (inr (inr h))) = inr (inr (inr (place_stands k T π h)))
place_stands (round t b k) T π (inl h) = inl (ap at (same_part h.1))
place_stands (round t b k) T π (inr (inl h)) = inr (inl (place_stands b (T ++ (h.0 ∷ [])) π h.1))
place_stands (round t b k) T π (inr (inr h)) = inr (inr (place_stands k T π h))

pub first_is_place : (B : Skeleton) (j : ℕ) (T : List ℕ) (σ : Place) → IsFirstOnTop B j T σ → IsPlaceUnder B T σ
first_is_place nil j T σ h = h
first_is_place (act t k) j T σ (inl e) = inl e
first_is_place (act t k) j T σ (inr h) = inr (first_is_place k 0 T σ h)
first_is_place (fork t b c k) j T σ (inl e) = inl e
first_is_place (fork t b c k) j T σ (inr h) = inr (inr (inr (first_is_place k 0 T σ h)))
first_is_place (round t b k) j T σ (inl e) = inl (j, e)
first_is_place (round t b k) j T σ (inr h) = inr (inr (first_is_place k 0 T σ h))

pub called_is_place : (B : Skeleton) (T : List ℕ) (σ π : Place) (v : Bool) → IsCalledBy B T σ π v → IsPlaceUnder B T σ × IsPlaceUnder B T π
called_is_place nil T σ π v h = absurd h
called_is_place (act t k) T σ π v h = let g = called_is_place k T σ π v h in (inr g.0, inr g.1)
called_is_place (fork t b c k) T σ π v (inl (e, inl h)) = (inr (inl (first_is_place b 0 T σ h.1)), inl e)
called_is_place (fork t b c k) T σ π v (inl (e, inr h)) = (inr (inr (inl (first_is_place c 0 T σ h.1))), inl e)
called_is_place (fork t b c k) T σ π v (inr (inl h)) = let g = called_is_place b T σ π v h in (inr (inl g.0), inr (inl g.1))
called_is_place (fork t b c k) T σ π v (inr (inr (inl h))) = let g = called_is_place c T σ π v h in (inr (inr (inl g.0)), inr (inr (inl g.1)))
called_is_place (fork t b c k) T σ π v (inr (inr (inr h))) = let g = called_is_place k T σ π v h in (inr (inr (inr g.0)), inr (inr (inr g.1)))
called_is_place (round t b k) T σ π v (inl (j, e, f, inl h)) = (inr (inl (j, first_is_place b 0 (T ++ (j ∷ [])) σ h)), inl (j, e))
called_is_place (round t b k) T σ π v (inl (j, e, f, inr h)) = (inl (suc j, h), inl (j, e))
called_is_place (round t b k) T σ π v (inr (inl (j, h))) = let g = called_is_place b (T ++ (j ∷ [])) σ π v h in (inr (inl (j, g.0)), inr (inl (j, g.1)))
called_is_place (round t b k) T σ π v (inr (inr h)) = let g = called_is_place k T σ π v h in (inr (inr g.0), inr (inr g.1))

-- a place of the head of a block, and one in a block inside
pub place_after_act : (t : Tag) (k : Skeleton) (T : List ℕ) (π : Place) → Distinct (act t k) → IsPlaceUnder (act t k) T π → StandsIn k (at π.0) → IsPlaceUnder k T π
place_after_act t k T π di (inl e) i = absurd (di.0 (subst (StandsIn k) (ap at (same_part e)) i))
place_after_act t k T π di (inr h) i = h

pub place_at_fork : (t : Tag) (b c k : Skeleton) (T : List ℕ) (π : Place) → Distinct (fork t b c k) → IsPlaceUnder (fork t b c k) T π → π.0 ≡ t → π ≡ (t, T)
place_at_fork t b c k T π di (inl e) q = e
place_at_fork t b c k T π di (inr (inl h)) q = absurd (di.0 (subst (λ v. StandsIn b (at v)) q (place_stands b T π h)))
place_at_fork t b c k T π di (inr (inr (inl h))) q = absurd (di.1 (subst (λ v. StandsIn c (at v)) q (place_stands c T π h)))
place_at_fork t b c k T π di (inr (inr (inr h))) q = absurd (di.2 (subst (λ v. StandsIn k (at v)) q (place_stands k T π h)))

pub place_in_yes : (t : Tag) (b c k : Skeleton) (T : List ℕ) (π : Place) → Distinct (fork t b c k) → IsPlaceUnder (fork t b c k) T π → StandsIn b (at π.0) → IsPlaceUnder b T π
place_in_yes t b c k T π di (inl e) i = absurd (di.0 (subst (λ v. StandsIn b (at v)) (same_part e) i))
place_in_yes t b c k T π di (inr (inl h)) i = h
place_in_yes t b c k T π di (inr (inr (inl h))) i = absurd (di.3 (at π.0) i (place_stands c T π h))
place_in_yes t b c k T π di (inr (inr (inr h))) i = absurd (di.4 (at π.0) i (place_stands k T π h))

pub place_in_no : (t : Tag) (b c k : Skeleton) (T : List ℕ) (π : Place) → Distinct (fork t b c k) → IsPlaceUnder (fork t b c k) T π → StandsIn c (at π.0) → IsPlaceUnder c T π
place_in_no t b c k T π di (inl e) i = absurd (di.1 (subst (λ v. StandsIn c (at v)) (same_part e) i))
place_in_no t b c k T π di (inr (inl h)) i = absurd (di.3 (at π.0) (place_stands b T π h) i)
place_in_no t b c k T π di (inr (inr (inl h))) i = h
place_in_no t b c k T π di (inr (inr (inr h))) i = absurd (di.5 (at π.0) i (place_stands k T π h))

pub place_after_fork : (t : Tag) (b c k : Skeleton) (T : List ℕ) (π : Place) → Distinct (fork t b c k) → IsPlaceUnder (fork t b c k) T π → StandsIn k (at π.0) → IsPlaceUnder k T π
place_after_fork t b c k T π di (inl e) i = absurd (di.2 (subst (λ v. StandsIn k (at v)) (same_part e) i))
place_after_fork t b c k T π di (inr (inl h)) i = absurd (di.4 (at π.0) (place_stands b T π h) i)
place_after_fork t b c k T π di (inr (inr (inl h))) i = absurd (di.5 (at π.0) (place_stands c T π h) i)
place_after_fork t b c k T π di (inr (inr (inr h))) i = h

pub place_at_round : (t : Tag) (b k : Skeleton) (T : List ℕ) (π : Place) → Distinct (round t b k) → IsPlaceUnder (round t b k) T π → π.0 ≡ t → (j : ℕ) × (π ≡ (t, T ++ (j ∷ [])))
place_at_round t b k T π di (inl h) q = h
place_at_round t b k T π di (inr (inl h)) q = absurd (di.0 (subst (λ v. StandsIn b (at v)) q (place_stands b (T ++ (h.0 ∷ [])) π h.1)))
place_at_round t b k T π di (inr (inr h)) q = absurd (di.1 (subst (λ v. StandsIn k (at v)) q (place_stands k T π h)))

pub place_in_body : (t : Tag) (b k : Skeleton) (T : List ℕ) (π : Place) → Distinct (round t b k) → IsPlaceUnder (round t b k) T π → StandsIn b (at π.0) → (j : ℕ) × IsPlaceUnder b (T ++ (j ∷ [])) π
place_in_body t b k T π di (inl h) i = absurd (di.0 (subst (λ v. StandsIn b (at v)) (same_part h.1) i))
place_in_body t b k T π di (inr (inl h)) i = h
place_in_body t b k T π di (inr (inr h)) i = absurd (di.2 (at π.0) i (place_stands k T π h))

pub place_after_round : (t : Tag) (b k : Skeleton) (T : List ℕ) (π : Place) → Distinct (round t b k) → IsPlaceUnder (round t b k) T π → StandsIn k (at π.0) → IsPlaceUnder k T π
place_after_round t b k T π di (inl h) i = absurd (di.1 (subst (λ v. StandsIn k (at v)) (same_part h.1) i))
place_after_round t b k T π di (inr (inl h)) i = absurd (di.2 (at π.0) (place_stands b (T ++ (h.0 ∷ [])) π h.1) i)
place_after_round t b k T π di (inr (inr h)) i = h
