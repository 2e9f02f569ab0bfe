-- Two things that stand under numbers, for two points.
--
-- TwoIn point_of Related In d u == In has one thing at the point d and another at u, and they are so related
-- at_spot s                             == the point of a spot
-- wider                         == what In has, Out has too
use Rattle.std.proofs.Common.{◌≡◌, ℕ}
use Rattle.hpr_syntax.specs.Skeleton.{Point}
use Rattle.hpr_paths.specs.Spots.{Spot, point_of}

pub record TwoIn {X : Type 0} (point_of : X → Point) (Related : ℕ → X → ℕ → X → Type 0) (In : ℕ → X → Type 0) (d u : Point) : Type 0 where
  pub first : ℕ
  pub one : X
  pub stands : In first one
  pub point : d ≡ point_of one
  pub second : ℕ
  pub other : X
  pub stands_too : In second other
  pub point_too : u ≡ point_of other
  pub related : Related first one second other

abbrev pub at_spot : Spot → Point
at_spot s = point_of s.role

pub wider : {X : Type 0} (point_of : X → Point) (Related : ℕ → X → ℕ → X → Type 0) (In Out : ℕ → X → Type 0) (d u : Point)
    → ((p : ℕ) (x : X) → In p x → Out p x) → TwoIn point_of Related In d u → TwoIn point_of Related Out d u
wider point_of Related In Out d u f h = record {
  first = h.first;
  one = h.one;
  stands = f h.first h.one h.stands;
  point = h.point;
  second = h.second;
  other = h.other;
  stands_too = f h.second h.other h.stands_too;
  point_too = h.point_too;
  related = h.related;
}
