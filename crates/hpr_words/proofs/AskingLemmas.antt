-- What a command asks for, by lists of what may be missing.
use Rattle.std.proofs.Common.{◌≡◌, List, [], ◌∷◌, map, Option, Some, None, option_and_then, option_map, slice_get, refl, ap}
use Rattle.clap.specs.Walk.{Text}
use Rattle.hpr_words.specs.Plain.{first_names}
use Rattle.hpr_words.specs.Taken.{all_some}
use Rattle.hpr_words.proofs.FormLemmas.{Gives}
use Rattle.hpr_words.proofs.PieceLemmas.{Each, none_some}

module _ {X Y : Type 0} where
  -- each is there
  pub all_some-each : (f : X → Option Y) (xs : List X) (ys : List Y) → all_some (map f xs) ≡ Some ys → Each (λ x. (y : Y) × (f x ≡ Some y)) xs
  all_some-each f [] ys e = tt
  all_some-each f (x ∷ xs) ys e = go (f x) refl (all_some (map f xs)) refl (λ zs g. all_some-each f xs zs g) e
    where
      go : (o : Option Y) → f x ≡ o → (os : Option (List Y)) → all_some (map f xs) ≡ os → ((zs : List Y) → all_some (map f xs) ≡ Some zs → Each (λ x. (y : Y) × (f x ≡ Some y)) xs)
          → option_and_then (λ y. option_map (λ zs. y ∷ zs) os) o ≡ Some ys → Each (λ x. (y : Y) × (f x ≡ Some y)) (x ∷ xs)
      go None here os there later g = absurd (none_some ys g)
      go (Some y) here None there later g = absurd (none_some ys g)
      go (Some y) here (Some zs) there later g = ((y, here), later zs there)

  pub all_some-same : (f h : X → Option Y) (xs : List X) → Each (λ x. f x ≡ h x) xs → all_some (map f xs) ≡ all_some (map h xs)
  all_some-same f h [] same = refl
  all_some-same f h (x ∷ xs) same = λ i. option_and_then (λ y. option_map (λ zs. y ∷ zs) (all_some-same f h xs same.1 i)) (same.0 i)

  pub all_some-some : (f : X → Y) (xs : List X) → Some (map f xs) ≡ all_some (map (λ x. Some (f x)) xs)
  all_some-some f [] = refl
  all_some-some f (x ∷ xs) = ap (option_map (λ zs. f x ∷ zs)) (all_some-some f xs)

-- the positionals of one word are given the first names
pub all_some-names : (f : Text → Option Text) (g : Text → List Text) (ids ns : List Text) → Each (λ id. (vs : List Text) → g id ≡ vs → f id ≡ slice_get vs 0) ids → Gives g ids ns
    → all_some (map f ids) ≡ first_names ids ns
all_some-names f g [] ns each gives = refl
all_some-names f g (id ∷ ids) [] each gives = absurd gives
all_some-names f g (id ∷ ids) (n ∷ ns) each gives = λ i. option_and_then (λ x. option_map (λ xs. x ∷ xs) (all_some-names f g ids ns each.1 gives.1 i)) (each.0 (n ∷ []) gives.0 i)
