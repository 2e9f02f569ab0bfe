-- A meaning as plain functions is lawful.
use Rattle.std.proofs.Common.{◌≡◌, ℕ, List, [], ◌∷◌, map, refl, ap}
use Rattle.hpr_syntax.specs.Contents.{used_names}
use Rattle.hpr_syntax.proofs.ActByUses.{uses_in}
use Rattle.hpr_syntax.proofs.StateLaws.{same_itself, same_not}
use Rattle.hpr_paths.proofs.Among.{Among, here, there, contains_among}
use Rattle.hpr_meaning.specs.Any.Meaning.{HasLaws}
use Rattle.hpr_any.specs.MeaningOf.{MeaningOf, by_reads}

module _ {V F : Type 0} (m : MeaningOf V F) where
  same_values : (s t : List ℕ → V) (names : List (List ℕ)) → ((x : List ℕ) → Among x names → s x ≡ t x) → map s names ≡ map t names
  same_values s t [] same = refl
  same_values s t (x ∷ names) same = let first = same x here in let rest = same_values s t names (λ y h. same y (there h)) in (λ i. first i ∷ rest i)

  pub by_reads_lawful : HasLaws (by_reads m)
  by_reads_lawful = record {
    by_uses = λ c s t same. ap (m.gives c) (same_values s t (used_names c) (λ x h. same x ((uses_in c x).0 (contains_among x (used_names c) h))));
    shown_by_uses = λ c s t same. refl;
    set_gives = λ s x v. let e = same_itself x in rw e refl;
    set_keeps = λ s x y v n. let e = same_not x y n in rw e refl;
    stable = m.stable;
  }
