-- Steps of a whole program by number and by tag.
use Rattle.std.proofs.Common.{◌≡◌, ◌+◌, ℕ, inl, inr, Option, Some, None, List, [], ◌∷◌, refl, sym, ap, ◌∙◌, subst}
use Rattle.std.specs.List.{slice_get, Contains}
use Rattle.hpr_terms.specs.declared.tag.Tag.{Tag}
use Rattle.hpr_syntax.specs.Body.{part_count}
use Rattle.hpr_syntax.specs.Tree.{Tree}
use Rattle.hpr_syntax.specs.Skeleton.{Point, skeleton}
use Rattle.hpr_syntax.specs.Skeleton as points
use Rattle.hpr_syntax.specs.Pairs.{Next, first_of, IsPair}
use Rattle.hpr_paths.specs.declared.spot.Step.{Step}
use Rattle.hpr_paths.specs.Spots.{enter, exit, Spot, point_of, steps_of, role_at, next_at}
use Rattle.hpr_paths.specs.Successors.{first_step, spot_of, spots}
use Rattle.hpr_paths.specs.Numbers.{IsNumberOf, mark_of, Leads}
use Rattle.hpr_terms.proofs.Few.{contains_one, has_one}
use Rattle.hpr_terms.proofs.Facts.{in_none}
use Rattle.hpr_paths.proofs.Stands.{WholeIn, end_of, get_of_whole, whole_of_get}
use Rattle.hpr_paths.proofs.Names.{Holds, Names, StepOf, role_of_get, get_of_role, names_one, first_names, follows_of_step, step_of_follows, step_named}

pub holds_whole : (t : Tree) → Holds (spots t) t.body 1 (end_of t) []
holds_whole t p s h = get_of_whole t p s (inr (inl h))

pub last_role : (t : Tree) → role_at (spots t) (part_count t.body + 1) ≡ Some (exit t.finals)
last_role t = role_of_get (spots t) (part_count t.body + 1) (spot_of [] [] (exit t.finals)) (get_of_whole t (part_count t.body + 1) (spot_of [] [] (exit t.finals)) (inr (inr (refl, refl))))

pub end_names : (t : Tree) → Names (spots t) (end_of t) (points.exit, None)
end_names t = (exit t.finals, last_role t, refl)

pub start_names : (t : Tree) → Names (spots t) (first_step t.body 1 (end_of t)) (first_of (skeleton t.body) (points.exit, None))
start_names t = first_names (spots t) t.body 1 (end_of t) [] (points.exit, None) (holds_whole t) (end_names t)

at_spot : (S : List Spot) (p : ℕ) (s : Spot) (st : Step) → slice_get S p ≡ Some s → Contains (next_at S p) st → Contains s.next st
at_spot S p s st get c = let P : List Step → Type 0 = λ xs. Contains xs st in subst P (ap steps_of get) c

spot_to : (s q : Spot) (st : Step) → s ≡ q → Contains s.next st → Contains q.next st
spot_to s q st is h = let P : Spot → Type 0 = λ x. Contains x.next st in subst P is h

pub pair_at : (t : Tree) (p : ℕ) (s : Spot) (st : Step) (y : Next) → WholeIn t p s → Contains s.next st → Names (spots t) st y → IsPair t.body (point_of s.role) y.0 y.1
pair_at t p s st y (inl h) c hy =
    let P : Step → Type 0 = λ q. Names (spots t) q y in
    inl (ap (λ (q : Spot). point_of q.role) h.1, names_one (spots t) _ y _ (subst P (contains_one _ st (spot_to s _ st h.1 c)) hy) (start_names t))
pair_at t p s st y (inr (inl h)) c hy = inr (follows_of_step (spots t) t.body 1 (end_of t) [] (points.exit, None) p s st y (holds_whole t) (end_names t) h c hy)
pair_at t p s st y (inr (inr h)) c hy = absurd (in_none st (spot_to s _ st h.1 c))

pub pair_of_step : (t : Tree) (p q : ℕ) (st : Step) (a z : Point) → Leads (spots t) p q st → IsNumberOf (spots t) p a → IsNumberOf (spots t) q z → IsPair t.body a z (mark_of (spots t) st)
pair_of_step t p q st a z lead na nz =
    let S : List Spot = spots t in
    let g = get_of_role S p na.0 na.1 in
    let Q : ℕ → Type 0 = λ k. role_at S k ≡ Some nz.0 in
    let named : Names S st (z, mark_of S st) = (nz.0, subst Q lead.1 nz.1, ap (λ (x : Point). (x, mark_of S st)) nz.2) in
    let is : point_of g.0.role ≡ a = ap point_of g.2 ∙ sym na.2 in
    let P : Point → Type 0 = λ x. IsPair t.body x z (mark_of S st) in
    subst P is (pair_at t p g.0 st (z, mark_of S st) (whole_of_get t p g.0 g.1) (at_spot S p g.0 st g.1 lead.0) named)

pub step_of_pair : (t : Tree) (a z : Point) (m : Option Tag) → IsPair t.body a z m → StepOf (spots t) (WholeIn t) a (z, m)
step_of_pair t a z m (inl h) =
    let start : Step = first_step t.body 1 (end_of t) in
    let n = start_names t in
    record {
      from = 0;
      spot = spot_of (start ∷ []) [] enter;
      step = start;
      stands = inl (refl, refl);
      point = h.0;
      there = has_one start;
      named = (n.0, n.1, h.1 ∙ n.2);
    }
step_of_pair t a z m (inr h) =
    let k = step_of_follows (spots t) t.body 1 (end_of t) [] (points.exit, None) a z m (holds_whole t) (end_names t) h in
    record { from = k.from; spot = k.spot; step = k.step; stands = inr (inl k.stands); point = k.point; there = k.there; named = k.named }

named_at : (t : Tree) (p : ℕ) (s : Spot) (st : Step) → WholeIn t p s → Contains s.next st → (y : Next) × Names (spots t) st y
named_at t p s st (inl h) c =
    let P : Step → Type 0 = λ q. (y : Next) × Names (spots t) q y in
    subst P (sym (contains_one _ st (spot_to s _ st h.1 c))) (first_of (skeleton t.body) (points.exit, None), start_names t)
named_at t p s st (inr (inl h)) c = step_named (spots t) t.body 1 (end_of t) [] (points.exit, None) p s st (holds_whole t) (end_names t) h c
named_at t p s st (inr (inr h)) c = absurd (in_none st (spot_to s _ st h.1 c))

next_from : (S : List Spot) (p : ℕ) (st : Step) → Contains (next_at S p) st → (s : Spot) × (slice_get S p ≡ Some s) × Contains s.next st
next_from S p st c = elim (slice_get S p) as (λ o. slice_get S p ≡ o → (s : Spot) × (slice_get S p ≡ Some s) × Contains s.next st) [
  | None ↦ λ is. absurd (in_none st (let P : List Step → Type 0 = λ xs. Contains xs st in subst P (ap steps_of is) c))
  | Some s ↦ λ is. (s, is, at_spot S p s st is c)
] refl

-- each step leads to a point
pub step_leads : (t : Tree) (p : ℕ) (st : Step) → Contains (next_at (spots t) p) st → (y : Next) × Names (spots t) st y
step_leads t p st c = let g = next_from (spots t) p st c in named_at t p g.0 st (whole_of_get t p g.0 g.1) g.2
