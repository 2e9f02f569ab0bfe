-- A meaning of contents over given types of values and faults, as plain functions.
--
-- MeaningOf V F  == what a part that says a content gives, a value of V or a fault of F, from the values of
--                   the names that it uses, in their order; whether a predicate that gave a value is true;
--                   and that two values which can't differ are the same
-- with_name s x v == the state s, where the name x has the value v now
-- by_reads m     == the meaning over the states that are functions from names to values
use Rattle.std.specs.Prelude.{◌≡◌, ℕ, Bool, List, map, Result, if◌then◌else◌}
use Rattle.std.specs.Ordering.{nat_cmp, is_eq}
use Rattle.std.specs.Cmp.Lexicographic.{slice_cmp}
use Rattle.hpr_syntax.specs.declared.rows.Content.{Content}
use Rattle.hpr_syntax.specs.Contents.{used_names}
use Rattle.hpr_meaning.specs.Any.Meaning.{Meaning}

pub record MeaningOf (V F : Type 0) : Type 0 where
  pub gives : Content → List V → Result V F
  pub holds : V → Bool
  pub stable : (v w : V) → ¬ (¬ (v ≡ w)) → v ≡ w

abbrev pub with_name : {V : Type 0} → (List ℕ → V) → List ℕ → V → List ℕ → V
with_name s x v y = if is_eq (slice_cmp nat_cmp y x) then v else s y

abbrev pub by_reads : {V F : Type 0} → MeaningOf V F → Meaning
by_reads {V} {F} m = record {
  Value = V;
  Fault = F;
  State = List ℕ → V;
  get = λ s x. s x;
  set = with_name;
  answer = λ c s. m.gives c (map s (used_names c));
  holds = m.holds;
  Shown = Unit {0};
  shown = λ c s. tt;
}
