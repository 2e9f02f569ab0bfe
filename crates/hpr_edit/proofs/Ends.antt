-- How the commands end: with the program that is settled, or with its refusal.
use Rattle.std.proofs.Common.{◌≡◌, ◌≢◌, ℕ, ◌≤◌, Bool, true, false, cond, if◌then◌else◌, Option, Some, None, Result, refl, arith}
use Rattle.std.proofs.lemmas.Option.{same_Some}
use Rattle.hpr_terms.specs.declared.tag.Tag.{Tag}
use Rattle.hpr_syntax.specs.declared.tree.Stmt.{Stmt}
use Rattle.hpr_syntax.specs.Body.{Body, done, action, branch, loop}
use Rattle.hpr_syntax.specs.Parts.{same_tag}
use Rattle.hpr_syntax.specs.Tree.{Tree}
use Rattle.hpr_syntax.specs.declared.shape.ShapeError.{ShapeError}
use Rattle.hpr_syntax.specs.Shape.{IsProgram, shape}
use Rattle.hpr_edit.specs.declared.command.Place.{Place}
use Rattle.hpr_edit.specs.declared.command.Inverse.{Inverse}
use Rattle.hpr_edit.specs.declared.command.EditError.{EditError}
use Rattle.hpr_edit.specs.declared.command.EditError.TheVariants.{NoTag, IntoItself, NoPlace, KindDiffers, SerialsSpent, Shape, Memory}
use Rattle.hpr_edit.specs.Changes.{at_part, gone}
use Rattle.hpr_edit.specs.Edited.{Edited, becomes, refused, refuse, found, settled}
use Rattle.hpr_edit.specs.InPlace.{times, Refused, Makes, Allows}
use Rattle.hpr_edit.proofs.Tags.{once}

-- a tag stands no more often where a part was taken out
times_if : (c : Bool) (x y : Body) (u : Tag) (n : ℕ) → times u x ≤ n → times u y ≤ n → times u (cond c x y) ≤ n
times_if true x y u n h k = h
times_if false x y u n h k = k

times_gone : (t u : Tag) (b : Body) → times u (at_part t gone b) ≤ times u b
times_gone t u done = omega arith
times_gone t u (action v d rest) =
    times_if (same_tag v t) rest (action v d (at_part t gone rest)) u _ (omega arith) (omega (arith, times_gone t u rest))
times_gone t u (branch v e a b rest) =
    times_if (same_tag v t) rest (branch v e (at_part t gone a) (at_part t gone b) (at_part t gone rest)) u _ (omega arith) (omega (arith, times_gone t u a, times_gone t u b, times_gone t u rest))
times_gone t u (loop v e b rest) =
    times_if (same_tag v t) rest (loop v e (at_part t gone b) (at_part t gone rest)) u _ (omega arith) (omega (arith, times_gone t u b, times_gone t u rest))

pub once_gone : (b : Body) → ((t : Tag) → times t b ≤ 1) → (t u : Tag) → times u (at_part t gone b) ≤ 1
once_gone b h t u = omega (arith, times_gone t u b, h u)

-- a test
pub passed : (why : EditError) (b : Bool) (next : Edited) (t : Tree) (r : Result Inverse EditError) → b ≡ false → Makes next t r → Makes (refuse why b next) t r
passed why b next t r e h = rw e h

pub allowed : (why : EditError) (b : Bool) (next : Edited) (t : Tag → Tree) (i : Tag → Inverse) (r : Result Tag EditError) → b ≡ false → Allows next t i r → Allows (refuse why b next) t i r
allowed why b next t i r e h = rw e h

-- the tag of a new part
pub spare : (b : Bool) (new next : Tag) → Some new ≡ (if b then None else Some next) → (b ≡ false) × (new ≡ next)
spare true new next h = absurd cc
spare false new next h = (refl, same_Some new next h)

pub spent : (b : Bool) (next : Tag) → (if b then None else Some next) ≡ None → b ≡ true
spent true next h = refl
spent false next h = absurd cc

-- the last test
pub settled_fits : (t : Tree) (i : Inverse) → shape t ≡ None → settled t i ≡ becomes t i
settled_fits t i h = rw h refl

pub settled_why : (t : Tree) (i : Inverse) (why : ShapeError) → shape t ≡ Some why → settled t i ≡ refused (Shape why)
settled_why t i why h = rw h refl

-- a refusal that isn't for want of memory
pub refused_by : (edited : Edited) (why : EditError) → Refused edited why → why ≢ Memory → edited ≡ refused why
refused_by edited Memory h other = absurd (other refl)
refused_by edited (Shape why) h other = h
refused_by edited (NoTag t) h other = h
refused_by edited (IntoItself t) h other = h
refused_by edited NoPlace h other = h
refused_by edited (KindDiffers t) h other = h
refused_by edited SerialsSpent h other = h
