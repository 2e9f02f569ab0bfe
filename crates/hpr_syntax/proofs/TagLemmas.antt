-- What the test of two tags tells, and that a part's point tells its tag.
use Rattle.std.proofs.Common.{◌≡◌, ◌==◌, true, refl}
use Rattle.std.proofs.lemmas.Bool.{eqb-true, eq-eqb}
use Rattle.hpr_terms.specs.declared.tag.Tag.{Tag}
use Rattle.hpr_terms.proofs.Facts.{and_both}
use Rattle.hpr_syntax.specs.Parts.{same_tag}
use Rattle.hpr_syntax.specs.Skeleton.{at}

pub same_tag_itself : (t : Tag) → same_tag t t ≡ true
same_tag_itself t = let a = eq-eqb t.author t.author refl in let b = eq-eqb t.serial t.serial refl in rw (a, b) refl

pub same_tag_is : (u t : Tag) → same_tag u t ≡ true → u ≡ t
same_tag_is u t h =
    let p : ((u.author == t.author) ≡ true) × ((u.serial == t.serial) ≡ true) = and_both _ _ h in
    let a : u.author ≡ t.author = eqb-true _ _ p.0 in
    let b : u.serial ≡ t.serial = eqb-true _ _ p.1 in
    (λ i. record { author = a i; serial = b i })

pub point_tag : (t u : Tag) → at t ≡ at u → t ≡ u
point_tag t u e = cc
