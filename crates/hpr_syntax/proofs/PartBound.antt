-- What the shape of a tree says of its number of parts.
use Rattle.std.proofs.Common.{◌≡◌, ℕ, ◌≤◌, arith, None}
use Rattle.hpr_terms.specs.declared.limits.TheConstants.{MAX_PARTS}
use Rattle.hpr_syntax.specs.Body.{part_count}
use Rattle.hpr_syntax.specs.Tree.{Tree}
use Rattle.hpr_syntax.specs.Shape.{IsProgram, too_many}
use Rattle.hpr_syntax.proofs.NoRefusal.{no_refusal}

pub few : (n : ℕ) → too_many n ≡ None → n ≤ MAX_PARTS
few n h = grind (arith, h)

pub few_parts : (t : Tree) → IsProgram t → part_count t.body ≤ MAX_PARTS
few_parts t h = few (part_count t.body) (no_refusal t h.shape).parts
