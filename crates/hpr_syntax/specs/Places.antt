-- Where parts stand to one another.
--
-- StandsLeft sk d u     == the part d stands before the part u in preorder
-- Parted sk d u         == some conditional has d and u in different branches
-- EnclosesBoth sk d u w == the loop w has d and u in its body, or is one of them: a loop encloses its own
--                          predicate
use Rattle.std.specs.Prelude.{◌≡◌, ◌⊎◌}
use Rattle.hpr_terms.specs.declared.tag.Tag.{Tag}
use Rattle.hpr_syntax.specs.Skeleton.{Skeleton, nil, act, fork, round, Point, at, StandsIn}

abbrev pub StandsLeft : Skeleton → Point → Point → Type 0
StandsLeft nil d u = ⊥
StandsLeft (act t k) d u = ((d ≡ at t) × StandsIn k u) ⊎ StandsLeft k d u
StandsLeft (fork t b c k) d u =
    ((d ≡ at t) × (StandsIn b u ⊎ (StandsIn c u ⊎ StandsIn k u)))
    ⊎ ((StandsIn b d × (StandsIn c u ⊎ StandsIn k u)) ⊎ ((StandsIn c d × StandsIn k u) ⊎ (StandsLeft b d u ⊎ (StandsLeft c d u ⊎ StandsLeft k d u))))
StandsLeft (round t b k) d u =
    ((d ≡ at t) × (StandsIn b u ⊎ StandsIn k u)) ⊎ ((StandsIn b d × StandsIn k u) ⊎ (StandsLeft b d u ⊎ StandsLeft k d u))

abbrev pub Parted : Skeleton → Point → Point → Type 0
Parted nil d u = ⊥
Parted (act t k) d u = Parted k d u
Parted (fork t b c k) d u = ((StandsIn b d × StandsIn c u) ⊎ (StandsIn c d × StandsIn b u)) ⊎ (Parted b d u ⊎ (Parted c d u ⊎ Parted k d u))
Parted (round t b k) d u = Parted b d u ⊎ Parted k d u

abbrev pub EnclosesBoth : Skeleton → Point → Point → Tag → Type 0
EnclosesBoth nil d u w = ⊥
EnclosesBoth (act t k) d u w = EnclosesBoth k d u w
EnclosesBoth (fork t b c k) d u w = EnclosesBoth b d u w ⊎ (EnclosesBoth c d u w ⊎ EnclosesBoth k d u w)
EnclosesBoth (round t b k) d u w =
    ((w ≡ t) × ((d ≡ at t) ⊎ StandsIn b d) × ((u ≡ at t) ⊎ StandsIn b u)) ⊎ (EnclosesBoth b d u w ⊎ EnclosesBoth k d u w)
