-- Paths between the parts of a program: what its skeleton tells of them, from the first part on to Exit.
use Rattle.std.proofs.Common.{◌≡◌, ℕ, List, ◌⊎◌, Option, Some, None, Contains, refl, ap, sym, subst, ◌∙◌, inl, inr}
use Rattle.hpr_terms.specs.declared.tag.Tag.{Tag}
use Rattle.hpr_syntax.specs.Body.{Body}
use Rattle.hpr_syntax.specs.Tree.{Tree}
use Rattle.hpr_syntax.specs.Shape.{IsProgram}
use Rattle.hpr_syntax.specs.Skeleton.{Skeleton, Point, enter, at, exit, StandsIn, skeleton}
use Rattle.hpr_syntax.specs.Pairs.{Next, FollowsIn, IsPair}
use Rattle.hpr_syntax.specs.Paths.{Path, one, step, IsPath, DefinesAt, IsUndisturbed}
use Rattle.hpr_syntax.specs.Places.{EnclosesBoth, StandsLeft, Parted}
use Rattle.hpr_paths.proofs.Among.{among_contains, contains_among}
use Rattle.hpr_paths.proofs.Ahead.{IsOutside, NoneEncloses, pair_from, pair_to, path_last, goes_ahead}
use Rattle.hpr_paths.proofs.DirectWays.{widen, direct_way}
use Rattle.hpr_paths.proofs.Different.{part_at, distinct_program}
use Rattle.hpr_paths.proofs.Says.{only_acts_define}
use Rattle.hpr_paths.proofs.Sides.{ahead_of_left, left_of_ahead, ahead_unparted}

-- what follows a program
abbrev pub at_end : Next
at_end = (exit, None)

abbrev IsEnter : Point → Type 0
IsEnter enter = Unit {0}
IsEnter _ = ⊥

abbrev IsExit : Point → Type 0
IsExit exit = Unit {0}
IsExit _ = ⊥

pub end_outside : (B : Skeleton) → IsOutside at_end B
end_outside B i = let g = part_at B exit i in subst IsExit g.1 tt

pub part_not_enter : (t : Tag) → ¬ (at t ≡ enter)
part_not_enter t e = subst IsEnter (sym e) tt

exit_not_enter : ¬ (exit ≡ enter)
exit_not_enter e = subst IsEnter (sym e) tt

stands_not_enter : (B : Skeleton) (z : Point) → StandsIn B z → ¬ (z ≡ enter)
stands_not_enter B z i e = let g = part_at B z i in part_not_enter g.0 (sym g.1 ∙ e)

pub enter_outside : (B : Skeleton) → ¬ StandsIn B enter
enter_outside B i = stands_not_enter B enter i refl

target_not_enter : (B : Skeleton) (a z : Point) (m : Option Tag) → FollowsIn B at_end a z m → ¬ (z ≡ enter)
target_not_enter B a z m r = go (pair_to B at_end a z m r)
  where
    go : StandsIn B z ⊎ ((z, m) ≡ at_end) → ¬ (z ≡ enter)
    go (inl i) = stands_not_enter B z i
    go (inr e) = λ f. exit_not_enter (sym (ap (λ (y : Next). y.0) e) ∙ f)

pair_after : (p : Body) (a z : Point) (m : Option Tag) → ¬ (a ≡ enter) → IsPair p a z m → FollowsIn (skeleton p) at_end a z m
pair_after p a z m n (inl h) = absurd (n h.0)
pair_after p a z m n (inr h) = h

-- a path of a program that doesn't begin at Enter is one of its skeleton
pub path_inside : (p : Body) {Stops : Point → Type 0} {a z : Point} {ms : List (Option Tag)} → ¬ (a ≡ enter) → Path (IsPair p) Stops a z ms
    → Path (FollowsIn (skeleton p) at_end) Stops a z ms
path_inside p n (one {a = a} {z = b} {m = m} r) = one (pair_after p a b m n r)
path_inside p n (step {a = a} {b = c} {m = m} r d q) =
    let s = pair_after p a c m n r in step s d (path_inside p (target_not_enter (skeleton p) a c m s) q)

pub path_outside : (p : Body) {Stops : Point → Type 0} {a z : Point} {ms : List (Option Tag)} → Path (FollowsIn (skeleton p) at_end) Stops a z ms
    → Path (IsPair p) Stops a z ms
path_outside p q = widen (λ a z m r. inr r) q

pub none_encloses : (p : Body) (d u : Point) (ms : List (Option Tag)) → ((w : Tag) → EnclosesBoth (skeleton p) d u w → ¬ Contains ms (Some w))
    → NoneEncloses (skeleton p) d u ms
none_encloses p d u ms f w m a = f w a (contains_among (Some w) ms m)

pub avoids_common : (p : Body) (d u : Point) (ms : List (Option Tag)) → NoneEncloses (skeleton p) d u ms
    → (w : Tag) → EnclosesBoth (skeleton p) d u w → ¬ Contains ms (Some w)
avoids_common p d u ms f w a m = f w (among_contains (Some w) ms m) a

-- both ends of a path between parts stand in the program
starts_inside : {R : Point → Point → Option Tag → Type 0} {Stops : Point → Type 0} {a z : Point} {ms : List (Option Tag)} → Path R Stops a z ms
    → (b : Point) × (m : Option Tag) × R a b m
starts_inside (one {z = b} {m = m} r) = (b, m, r)
starts_inside (step {b = b} {m = m} r d p) = (b, m, r)

stands_at_end : (B : Skeleton) (a : Point) (t : Tag) (m : Option Tag) → FollowsIn B at_end a (at t) m → StandsIn B (at t)
stands_at_end B a t m r = go (pair_to B at_end a (at t) m r)
  where
    go : StandsIn B (at t) ⊎ ((at t, m) ≡ at_end) → StandsIn B (at t)
    go (inl i) = i
    go (inr e) = absurd (subst IsExit (sym (ap (λ (y : Next). y.0) e)) tt)

module _ (t : Tree) (prog : IsProgram t) (d u : Tag) (marks : List (Option Tag)) where
  pub path_ahead : IsPath t.body (at d) (at u) marks → ((w : Tag) → EnclosesBoth (skeleton t.body) (at d) (at u) w → ¬ Contains marks (Some w))
      → StandsLeft (skeleton t.body) (at d) (at u) × ¬ Parted (skeleton t.body) (at d) (at u)
  path_ahead path avoids =
      let B = skeleton t.body in
      let di = distinct_program t prog in
      let p = path_inside t.body (part_not_enter d) path in
      let f = starts_inside p in
      let l = path_last p in
      let id = pair_from B at_end (at d) f.0 f.1 f.2 in
      let iu = stands_at_end B l.0 u l.1 l.2 in
      let a = goes_ahead B at_end (λ _. ⊥) di (end_outside B) (at d) (at u) marks p id iu (none_encloses t.body (at d) (at u) marks avoids) in
      (left_of_ahead B (at d) (at u) a, ahead_unparted B di (at d) (at u) a)

  pub way_exists : (x : List ℕ) → DefinesAt t.body x (at d) → IsUndisturbed t.body x (at d) (at u) marks → StandsLeft (skeleton t.body) (at d) (at u)
      → ¬ Parted (skeleton t.body) (at d) (at u)
      → (ms : List (Option Tag)) × IsUndisturbed t.body x (at d) (at u) ms
      × ((w : Tag) → EnclosesBoth (skeleton t.body) (at d) (at u) w → ¬ Contains ms (Some w))
  way_exists x defines path left whole =
      let B = skeleton t.body in
      let di = distinct_program t prog in
      let p = path_inside t.body (part_not_enter d) path in
      let f = starts_inside p in
      let l = path_last p in
      let id = pair_from B at_end (at d) f.0 f.1 f.2 in
      let iu = stands_at_end B l.0 u l.1 l.2 in
      let w = direct_way B at_end (DefinesAt t.body x) di (end_outside B) (only_acts_define t.body di x t.body (λ v c h. h)) (at d) (at u) defines
      (inl (marks, p)) id iu (ahead_of_left B (at d) (at u) left whole) in
      (w.0, path_outside t.body w.1, avoids_common t.body (at d) (at u) w.0 w.2)
