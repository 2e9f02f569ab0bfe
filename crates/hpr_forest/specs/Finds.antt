-- What a search answers.
--
-- IfFirst f P    == P of the number of tries, where a whole list that fits was found
-- IfNoneFits f P == P of the number of tries, where no whole list fits
use Rattle.std.specs.Prelude.{ℕ}
use Rattle.hpr_forest.specs.declared.fitting.Found.{Found}
use Rattle.hpr_forest.specs.declared.fitting.Found.TheVariants.{First, NoneFits, Spent}

abbrev pub IfFirst : Found → (ℕ → Type 0) → Type 0
IfFirst (First n) P = P n
IfFirst (NoneFits n) P = Unit {0}
IfFirst Spent P = Unit {0}

abbrev pub IfNoneFits : Found → (ℕ → Type 0) → Type 0
IfNoneFits (First n) P = Unit {0}
IfNoneFits (NoneFits n) P = P n
IfNoneFits Spent P = Unit {0}
