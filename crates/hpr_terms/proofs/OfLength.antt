-- A text is looked for among the keywords of its length alone.
use Rattle.std.proofs.Common.{◌≡◌, ℕ, Bool, true, false, eqb, cond, List, [], ◌∷◌, length, Some, refl, ap}
use Rattle.std.specs.List.{find, filter}
use Rattle.std.specs.Str.{bytes_eq}
use Rattle.std.proofs.lemmas.Bool.{eqb-false}
use Rattle.std.proofs.lemmas.Slice.Eq.{bytes_eq-Decides}
use Rattle.hpr_terms.specs.declared.keyword.Keyword.{Keyword}
use Rattle.hpr_terms.specs.Keywords.{keyword_text}

other_length : (xs ys : List ℕ) → eqb (length xs) (length ys) ≡ false → bytes_eq xs ys ≡ false
other_length xs ys n = at (bytes_eq xs ys) refl
  where
    at : (v : Bool) → bytes_eq xs ys ≡ v → bytes_eq xs ys ≡ false
    at true e = absurd (eqb-false (length xs) (length ys) n (ap length ((bytes_eq-Decides xs ys).0 e)))
    at false e = e

pub found_by_length : (w : List ℕ) (ks : List Keyword) →
    find (λ k. bytes_eq (keyword_text k) w) (filter (λ k. eqb (length (keyword_text k)) (length w)) ks) ≡ find (λ k. bytes_eq (keyword_text k) w) ks
found_by_length w [] = refl
found_by_length w (k ∷ ks) = at (eqb (length (keyword_text k)) (length w)) refl (found_by_length w ks)
  where
    at : (v : Bool) → eqb (length (keyword_text k)) (length w) ≡ v →
        find (λ k. bytes_eq (keyword_text k) w) (filter (λ k. eqb (length (keyword_text k)) (length w)) ks) ≡ find (λ k. bytes_eq (keyword_text k) w) ks →
        find (λ k. bytes_eq (keyword_text k) w) (cond v (k ∷ filter (λ k. eqb (length (keyword_text k)) (length w)) ks) (filter (λ k. eqb (length (keyword_text k)) (length w)) ks))
        ≡ find (λ k. bytes_eq (keyword_text k) w) (k ∷ ks)
    at true e rest = ap (cond (bytes_eq (keyword_text k) w) (Some k)) rest
    at false e rest = rw (other_length (keyword_text k) w e) rest
