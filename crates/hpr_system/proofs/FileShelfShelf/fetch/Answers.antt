use Rattle.std.proofs.Common.{refl, arith}
use Rattle.hpr_system.proofs.FileShelfShelf.fetch.Goals as goal

pub returns-in-Err-Memory-clause-count : goal.returns-in-Err-Memory-clause-count
returns-in-Err-Memory-clause-count g c = record { later = omega arith; rose = λ same. absurd cc; quiet = λ h. refl }

pub returns-in-Err-Failed-clause-count : goal.returns-in-Err-Failed-clause-count
returns-in-Err-Failed-clause-count g c = record {
  later = omega (arith, c.self.view_is, c.saturating_add-self-inside.ensures);
  rose = λ h. grind (arith, c.self.view_is, c.saturating_add-self-inside.ensures);
  quiet = λ h. absurd (h refl);
}

pub returns-in-Ok-clause-short : goal.returns-in-Ok-clause-short
returns-in-Ok-clause-short g c = c.in-Ok.ensures
