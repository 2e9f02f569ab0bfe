-- The flow edges of a program's graph between parts, as ways of its skeleton.
use Rattle.std.proofs.Common.{◌≡◌, ℕ, List, Option, Some, refl, ap, sym, ◌∙◌, subst, inl, inr}
use Rattle.hpr_terms.specs.declared.tag.Tag.{Tag}
use Rattle.hpr_syntax.specs.declared.rows.Content.{Content}
use Rattle.hpr_syntax.specs.Contents.{UsesIn}
use Rattle.hpr_syntax.specs.Body.{Body}
use Rattle.hpr_syntax.specs.Tree.{Tree}
use Rattle.hpr_syntax.specs.Rows.{assigned}
use Rattle.hpr_syntax.specs.Skeleton.{Point, at, Distinct, skeleton}
use Rattle.hpr_syntax.specs.Pairs.{FollowsIn}
use Rattle.hpr_syntax.specs.Nests.{Says}
use Rattle.hpr_syntax.specs.Paths.{Path, DefinesAt, IsUndisturbed}
use Rattle.hpr_graph.specs.declared.vertex.Vertex.{Vertex}
use Rattle.hpr_graph.specs.declared.vertex.Vertex.TheVariants.{Part}
use Rattle.hpr_graph.specs.ProgramGraph.{AvoidsCommon, IsIndependent, HasFlow}
use Rattle.hpr_paths.proofs.SkeletonTags.{same_at}
use Rattle.hpr_paths.proofs.Says.{says_one}
use Rattle.hpr_paths.proofs.DirectWays.{DirectWay}
use Rattle.hpr_paths.proofs.ByEdges.{HasPath}
use Rattle.hpr_paths.proofs.Programs.{at_end, part_not_enter, path_inside, path_outside, none_encloses, avoids_common}

pub defines_part : (p : Body) (x : List ℕ) (t : Tag) (c : Content) → assigned c ≡ Some x → Says p t c → DefinesAt p x (at t)
defines_part p x t c is h = (t, c, refl, h, is)

pub assigns_at : (p : Body) → Distinct (skeleton p) → (x : List ℕ) (t : Tag) (c : Content) → Says p t c → DefinesAt p x (at t) → assigned c ≡ Some x
assigns_at p di x t c h (u, d, is, says, by) =
    let same : c ≡ d = says_one p di t c d h (subst (λ v. Says p v d) (sym (same_at is)) says) in ap assigned same ∙ by

-- an undisturbed path between the points that stand for two parts is one between the parts
moved : (p : Tree) (x : List ℕ) (a z : Point) (t v : Tag) (ms : List (Option Tag)) → a ≡ at t → z ≡ at v → IsUndisturbed p.body x a z ms
    → Path (FollowsIn (skeleton p.body) at_end) (DefinesAt p.body x) (at t) (at v) ms
moved p x a z t v ms is is' q =
    path_inside p.body (part_not_enter t) (subst (λ y. IsUndisturbed p.body x y (at v) ms) is (subst (λ y. IsUndisturbed p.body x a y ms) is' q))

-- a flow from a part, and to one
pub flow_source : (p : Tree) (x : List ℕ) (t : Tag) (c : Content) (to : Vertex) → HasFlow p x (Part t c) to → (assigned c ≡ Some x) × Says p.body t c
flow_source p x t c to (inl (a, z, ms, (d, r, q), n)) = (d.0, d.1)
flow_source p x t c to (inr (w, (a, z, ms, l, k, (d, r, q), same, says', both, there))) = (d.0, d.1)

pub flow_target : (p : Tree) (x : List ℕ) (from : Vertex) (t : Tag) (c : Content) → HasFlow p x from (Part t c) → UsesIn c x × Says p.body t c
flow_target p x from t c (inl (a, z, ms, (d, r, q), n)) = (r.0, r.1)
flow_target p x from t c (inr (w, (a, z, ms, l, k, (d, r, q), same, says', both, there))) = (r.0, r.1)

pub flow_path : (p : Tree) (x : List ℕ) (t v : Tag) (c e : Content) → HasFlow p x (Part t c) (Part v e)
    → HasPath (skeleton p.body) at_end (DefinesAt p.body x) (at t) (at v)
flow_path p x t v c e (inl (a, z, ms, (d, r, q), n)) = (ms, moved p x a z t v ms d.2 r.2 q)
flow_path p x t v c e (inr (w, (a, z, ms, l, k, (d, r, q), same, says', both, there))) = (ms, moved p x a z t v ms d.2 r.2 q)

pub independent_way : (p : Tree) (x : List ℕ) (t v : Tag) (c e : Content) → IsIndependent p x (Part t c) (Part v e)
    → DirectWay (skeleton p.body) at_end (DefinesAt p.body x) (at t) (at v)
independent_way p x t v c e (a, z, ms, (d, r, q), n) = (
  ms,
  moved p x a z t v ms d.2 r.2 q,
  none_encloses p.body (at t) (at v) ms (subst (λ y. AvoidsCommon p y (at v) ms) d.2 (subst (λ y. AvoidsCommon p a y ms) r.2 n)),
)

pub way_independent : (p : Tree) (x : List ℕ) (t v : Tag) (c e : Content) → assigned c ≡ Some x → Says p.body t c → UsesIn e x → Says p.body v e
    → DirectWay (skeleton p.body) at_end (DefinesAt p.body x) (at t) (at v) → IsIndependent p x (Part t c) (Part v e)
way_independent p x t v c e is says uses says' w =
    (at t, at v, w.0, ((is, says, refl), (uses, says', refl), path_outside p.body w.1), avoids_common p.body (at t) (at v) w.0 w.2)
