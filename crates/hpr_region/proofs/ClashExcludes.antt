-- Where the next part clashes with the placed ones, no program whose preorder begins so has the graph.
use Rattle.std.proofs.Common.{◌≡◌, ◌<◌, ℕ, Bool, inl, inr, Some, None, List, [], ◌∷◌, ◌++◌, Contains, refl, sym, ap, ◌∙◌, subst, arith}
use Rattle.std.proofs.lemmas.List.Elements.{Contains-append_left, Contains-append_right, Contains-append_cases}
use Rattle.std.proofs.lemmas.Option.{none-some}
use Rattle.hpr_terms.specs.declared.tag.Tag.{Tag}
use Rattle.hpr_syntax.specs.declared.rows.Content.{Content}
use Rattle.hpr_syntax.specs.Nests.{Standing, StandsAsIn, Says}
use Rattle.hpr_syntax.specs.Pairs.{first_of, FollowsIn}
use Rattle.hpr_syntax.specs.Paths.{Path, DefinesAt, IsUndisturbed}
use Rattle.hpr_syntax.specs.Places.{StandsLeft}
use Rattle.hpr_syntax.specs.Rows.{Parent, assigned}
use Rattle.hpr_syntax.specs.Shape.{IsProgram}
use Rattle.hpr_syntax.specs.Skeleton.{Skeleton, act, Point, at, StandsIn, skeleton}
use Rattle.hpr_syntax.specs.Tree.{Tree}
use Rattle.hpr_graph.specs.declared.vertex.Vertex.{Vertex}
use Rattle.hpr_graph.specs.declared.vertex.Vertex.TheVariants.{Part}
use Rattle.hpr_graph.specs.declared.edge.Kind.TheVariants.{Control, Independent}
use Rattle.hpr_graph.specs.Graphs.{Graph, name_of}
use Rattle.hpr_graph.specs.ProgramGraph.{IsControl, IsIndependent}
use Rattle.hpr_graph.specs.Arrangements.{edge_into}
use Rattle.hpr_graph.specs.Rank.{parts_of}
use Rattle.hpr_graph.specs.Answer.{Fits}
use Rattle.hpr_graph.proofs.Lists.{in_cons, in_here}
use Rattle.hpr_paths.specs.Spots.{part}
use Rattle.hpr_paths.proofs.Left.{number_left}
use Rattle.hpr_paths.proofs.Nested.{number_of_says}
use Rattle.hpr_paths.proofs.Between.{Suffix, self, by_act, by_fork, by_round, suffix_in}
use Rattle.hpr_paths.proofs.Different.{distinct_program}
use Rattle.hpr_paths.proofs.DirectWays.{OnlyActsStop, widen}
use Rattle.hpr_paths.proofs.Programs.{at_end, end_outside, part_not_enter, path_inside, path_outside, way_exists}
use Rattle.hpr_paths.proofs.Says.{only_acts_define}
use Rattle.hpr_paths.proofs.Sides.{ahead_unparted}
use Rattle.hpr_region.proofs.Straight.{next_use}
use Rattle.hpr_graph.specs.Clashes.{StandInOneBlock, UsesName, Clashes}
use Rattle.hpr_region.proofs.PartOrder.{StandsBy, by_split, by_first, by_second, same_tags, left_by_list, part_says, says_part}
use Rattle.hpr_region.proofs.Subblocks.{Subblock, whole, after_act, in_yes, in_no, after_fork, in_body, after_round, sub_pairs, sub_left, sub_ahead, sub_distinct, no_way_past}
use Rattle.hpr_region.proofs.OneBlock.{Heads, an_act, a_fork, a_round, StandsBehind, behind}

-- ---- skeletons

only_inside : {b : Skeleton} {m : _} {B : Skeleton} {n : _} → Subblock b m B n → (Stops : Point → Type 0) → OnlyActsStop B Stops → OnlyActsStop b Stops
only_inside whole S q = q
only_inside (after_act h) S q = only_inside h S q
only_inside (in_yes h) S q = only_inside h S q.1
only_inside (in_no h) S q = only_inside h S q.2
only_inside (after_fork h) S q = only_inside h S q.3
only_inside (in_body h) S q = only_inside h S q.1
only_inside (after_round h) S q = only_inside h S q.2

-- what defines is an act
heads_act : (d : Tag) (k b : Skeleton) (Stops : Point → Type 0) → Heads d k b → OnlyActsStop b Stops → Stops (at d) → act d k ≡ b
heads_act d k _ S an_act q s = refl
heads_act d k _ S a_fork q s = absurd (q.0 s)
heads_act d k _ S a_round q s = absurd (q.0 s)

heads_first : (d : Tag) (k b : Skeleton) (n : _) → Heads d k b → (first_of b n).0 ≡ at d
heads_first d k _ n an_act = refl
heads_first d k _ n a_fork = refl
heads_first d k _ n a_round = refl

heads_in : (d : Tag) (k b : Skeleton) → Heads d k b → StandsIn b (at d)
heads_in d k _ an_act = inl refl
heads_in d k _ a_fork = inl refl
heads_in d k _ a_round = inl refl

-- what stands in the block, and not in what follows from some part on, is to the left of that
suffix_left : (s k : Skeleton) → Suffix s k → (q u : Point) → StandsIn k q → ¬ StandsIn s q → StandsIn s u → StandsLeft k q u
suffix_left s _ self q u i o j = absurd (o i)
suffix_left s _ (by_act {t = t} {k = k} h) q u (inl e) o j = inl (e, suffix_in s k h u j)
suffix_left s _ (by_act {t = t} {k = k} h) q u (inr i) o j = inr (suffix_left s k h q u i o j)
suffix_left s _ (by_fork {t = t} {k = k} h) q u (inl e) o j = inl (e, inr (inr (suffix_in s k h u j)))
suffix_left s _ (by_fork {t = t} {k = k} h) q u (inr (inl i)) o j = inr (inl (i, inr (suffix_in s k h u j)))
suffix_left s _ (by_fork {t = t} {k = k} h) q u (inr (inr (inl i))) o j = inr (inr (inl (i, suffix_in s k h u j)))
suffix_left s _ (by_fork {t = t} {k = k} h) q u (inr (inr (inr i))) o j = inr (inr (inr (inr (inr (suffix_left s k h q u i o j)))))
suffix_left s _ (by_round {t = t} {k = k} h) q u (inl e) o j = inl (e, inr (suffix_in s k h u j))
suffix_left s _ (by_round {t = t} {k = k} h) q u (inr (inl i)) o j = inr (inl (i, suffix_in s k h u j))
suffix_left s _ (by_round {t = t} {k = k} h) q u (inr (inr i)) o j = inr (inr (inr (suffix_left s k h q u i o j)))

-- ---- vertices

-- the control parent that a source and a label stand for
abbrev parent_by : Vertex → Bool → Parent
parent_by (Part q c) label = Some (q, label)
parent_by _ label = None

module _ (p : Tree) (prog : IsProgram p) where
  abbrev B : Skeleton
  B = skeleton p.body

  defines_at : (x : List ℕ) (t : Tag) (c : Content) → assigned c ≡ Some x → Says p.body t c → DefinesAt p.body x (at t)
  defines_at x t c h says = (t, c, refl, says, h)

  standing : (label : Bool) (from : Vertex) (t : Tag) (c : Content) → IsControl p label from (Part t c) → (s : Standing) × StandsAsIn p.body t s × (s.parent ≡ parent_by from label)
  standing label from t c (inl (entry, is, (s, stands, content, parent))) = (s, stands, parent ∙ ap (λ (v : Vertex). parent_by v label) (sym entry))
  standing label from t c (inr (q, k, is, says, (u, s, stands, same, parent))) =
      (s, subst (λ (z : Tag). StandsAsIn p.body z s) (sym (same_tags same)) stands, parent ∙ ap (λ (v : Vertex). parent_by v label) (sym is))

  -- of two parts one alone stands to the left
  one_left : (v w : Tag) (c d : Content) → Says p.body v c → Says p.body w d → StandsLeft B (at v) (at w) → ¬ StandsLeft B (at w) (at v)
  one_left v w c d says says' h k =
      let (i, role) = number_of_says p v c says in
      let (j, role') = number_of_says p w d says' in
      let less : i < j = number_left p i j (at v) (at w) prog (part v c, role, refl) (part w d, role', refl) h in
      let more : j < i = number_left p j i (at w) (at v) prog (part w d, role', refl) (part v c, role, refl) k in
      omega (arith, less, more)

  -- two parts that an arrangement's control edges put in one block
  stands_behind : (g : Graph) → Fits g p → (s t : Tag) (c d : Content) → StandInOneBlock g (Part s c) (Part t d) → StandsLeft B (at s) (at t) → StandsBehind B at_end s t
  stands_behind g fits s t c d (from, label, ed, ec) left =
      let (r, stands, parent) = standing label from s c ((fits.1 (edge_into from (Part s c) (Control label))).1 ed) in
      let (q, stands', parent') = standing label from t d ((fits.1 (edge_into from (Part t d) (Control label))).1 ec) in
      behind p.body [] None at_end (distinct_program p prog) (λ u l e i. none-some (u, l) e) s t r q stands stands' (parent ∙ sym parent') left

  -- ---- wrong reach
  abbrev IsReach : Graph → List ℕ → List Vertex → List Vertex → List Vertex → Vertex → Vertex → Type 0
  IsReach g x front back rest d c =
      (parts_of p ≡ (front ++ d ∷ back) ++ c ∷ rest) × StandInOneBlock g d c × (name_of d ≡ Some x) × UsesName c x × ¬ g.edge (edge_into d c (Independent x))

  reach_parts : (g : Graph) → Fits g p → (x : List ℕ) (front back rest : List Vertex) → ((v : Vertex) → Contains back v → ¬ (name_of v ≡ Some x)) → (s t : Tag) (c d : Content)
      → Says p.body s c → Says p.body t d → IsReach g x front back rest (Part s c) (Part t d) → ⊥
  reach_parts g fits x front back rest still s t c d says says' (split, block, defines, uses, absent) =
      let V : Vertex = Part s c in
      let W : Vertex = Part t d in
      let di = distinct_program p prog in
      let here_ : Contains (front ++ V ∷ back) V = Contains-append_right front (V ∷ back) V (in_here V back) in
      let left : StandsLeft B (at s) (at t) =
      left_by_list p s t c d (subst (λ (vs : List Vertex). StandsBy vs V W) (sym split) (by_split (front ++ V ∷ back) (W ∷ rest) V W here_ (in_here W rest))) in
      let h = stands_behind g fits s t c d block left in
      let stops : DefinesAt p.body x (at s) = defines_at x s c defines says in
      let only = only_inside h.inside (DefinesAt p.body x) (only_acts_define p.body di x p.body (λ v k i. i)) in
      let is : act s h.rest ≡ h.block = heads_act s h.rest h.block (DefinesAt p.body x) h.heads only stops in
      let inside : Subblock (act s h.rest) h.next B at_end = subst (λ (b : Skeleton). Subblock b h.next B at_end) (sym is) h.inside in
      let there : StandsIn h.from (at t) = heads_in t h.behind h.from h.begins in
      let clear : (q : Point) → StandsIn h.rest q → ¬ StandsIn h.from q → ¬ DefinesAt p.body x q =
      (λ q i o stop. between s t c d says says' split still h.rest h.next h.from inside h.suffix there q i o stop) in
      let way = next_use s h.from h.rest h.next (DefinesAt p.body x) (sub_distinct inside di) h.suffix clear t (heads_first t h.behind h.from h.next h.begins) in
      let ahead = sub_ahead inside (at s) (at t) (inl (refl, suffix_in h.from h.rest h.suffix (at t) there)) in
      let (ms, path, avoids) = way_exists p prog s t way.0 x stops (path_outside p.body (widen (sub_pairs inside) way.1)) left (ahead_unparted B di (at s) (at t) ahead) in
      let edge : IsIndependent p x V W = (at s, at t, ms, ((defines, says, refl), (uses, says', refl), path), avoids) in
      absent ((fits.1 (edge_into V W (Independent x))).0 edge)
    where
      -- nothing defines the name between the two
      between : (s t : Tag) (c d : Content) → Says p.body s c → Says p.body t d → parts_of p ≡ (front ++ Part s c ∷ back) ++ Part t d ∷ rest
          → ((v : Vertex) → Contains back v → ¬ (name_of v ≡ Some x)) → (k : Skeleton) (m : _) (from : Skeleton) → Subblock (act s k) m B at_end → Suffix from k → StandsIn from (at t)
          → (q : Point) → StandsIn k q → ¬ StandsIn from q → DefinesAt p.body x q → ⊥
      between s t c d says says' split still k m from inside suffix there q i o (u, e, is, says'', assigns) =
          let V : Vertex = Part s c in
          let W : Vertex = Part t d in
          let U : Vertex = Part u e in
          let right : StandsLeft B (at s) (at u) = sub_left inside (at s) (at u) (inl (refl, subst (StandsIn k) is i)) in
          let left : StandsLeft B (at u) (at t) = sub_left inside (at u) (at t) (inr (subst (λ (z : Point). StandsLeft k z (at t)) is (suffix_left from k suffix q (at t) i o there))) in
          let listed : Contains ((front ++ V ∷ back) ++ W ∷ rest) U = subst (λ (vs : List Vertex). Contains vs U) split (says_part p u e says'') in
          let by : (xs ys : List Vertex) (v w : Vertex) → (front ++ V ∷ back) ++ W ∷ rest ≡ xs ++ ys → Contains xs v → Contains ys w → StandsBy (parts_of p) v w =
          (λ xs ys v w e_ a b. subst (λ (vs : List Vertex). StandsBy vs v w) (sym (split ∙ e_)) (by_split xs ys v w a b)) in
          elim (Contains-append_cases (front ++ V ∷ back) (W ∷ rest) U listed) [
            | inl before ↦ (elim (Contains-append_cases front (V ∷ back) U before) [
              | inl in_front ↦ (let back_ : StandsLeft B (at u) (at s) = left_by_list p u s e c (subst (λ (vs : List Vertex). StandsBy vs U V) (sym split)
                  (by_first (front ++ V ∷ back) (W ∷ rest) U V (by_split front (V ∷ back) U V in_front (in_here V back)))) in
                  one_left s u c e says says'' right back_)
              | inr more ↦ (elim (in_cons V U back more) [
                | inl same ↦ (let self_ : StandsLeft B (at s) (at s) = subst (λ (z : Tag). StandsLeft B (at s) (at z)) (sym (same_tags same)) right in one_left s s c c says says self_ self_)
                | inr later ↦ still U later assigns
              ])
            ])
            | inr after ↦ (elim (in_cons W U rest after) [
              | inl same ↦ (let self_ : StandsLeft B (at t) (at t) = subst (λ (z : Tag). StandsLeft B (at z) (at t)) (sym (same_tags same)) left in one_left t t d d says' says' self_ self_)
              | inr later ↦ (let back_ : StandsLeft B (at t) (at u) = left_by_list p t u d e (subst (λ (vs : List Vertex). StandsBy vs W U) (sym split)
                  (by_second (front ++ V ∷ back) (W ∷ rest) W U (inl (refl, later)))) in
                  one_left u t e d says'' says' left back_)
            ])
          ]

  -- ---- kill
  kill_parts : (g : Graph) → Fits g p → (x : List ℕ) (placed rest : List Vertex) (s t u : Tag) (c d e : Content) → Says p.body s c → Says p.body t d
      → parts_of p ≡ placed ++ Part t d ∷ rest → Contains placed (Part s c) → ¬ (Part u e ≡ Part t d) → ¬ Contains placed (Part u e) → StandInOneBlock g (Part t d) (Part u e)
      → (assigned d ≡ Some x) → g.edge (edge_into (Part s c) (Part u e) (Independent x)) → ⊥
  kill_parts g fits x placed rest s t u c d e says says' split in_placed other fresh block defines edge =
      let V : Vertex = Part s c in
      let W : Vertex = Part t d in
      let U : Vertex = Part u e in
      let di = distinct_program p prog in
      let (a, z, ms, ((is, saysv, e1), (uses, saysu, e2), path), avoids) = (fits.1 (edge_into V U (Independent x))).1 edge in
      let listed : Contains (placed ++ W ∷ rest) U = subst (λ (vs : List Vertex). Contains vs U) split (says_part p u e saysu) in
      let later : Contains rest U = (elim (Contains-append_cases placed (W ∷ rest) U listed) [
        | inl before ↦ absurd (fresh before)
        | inr after ↦ (elim (in_cons W U rest after) [ inl same ↦ absurd (other (sym same)) | inr there ↦ there ])
      ]) in
      let left : StandsLeft B (at t) (at u) = left_by_list p t u d e (subst (λ (vs : List Vertex). StandsBy vs W U) (sym split) (by_second placed (W ∷ rest) W U (inl (refl, later)))) in
      let first : StandsLeft B (at s) (at t) = left_by_list p s t c d (subst (λ (vs : List Vertex). StandsBy vs V W) (sym split) (by_split placed (W ∷ rest) V W in_placed (in_here W rest))) in
      let h = stands_behind g fits t u d e block left in
      let stops : DefinesAt p.body x (at t) = defines_at x t d defines says' in
      let only = only_inside h.inside (DefinesAt p.body x) (only_acts_define p.body di x p.body (λ v k i. i)) in
      let same : act t h.rest ≡ h.block = heads_act t h.rest h.block (DefinesAt p.body x) h.heads only stops in
      let inside : Subblock (act t h.rest) h.next B at_end = subst (λ (b : Skeleton). Subblock b h.next B at_end) (sym same) h.inside in
      let outside : ¬ StandsIn (act t h.rest) (at s) = (λ i. (elim i [
        | inl q ↦ (let self_ : StandsLeft B (at t) (at t) = subst (λ (y : Point). StandsLeft B y (at t)) q first in one_left t t d d says' says' self_ self_)
        | inr q ↦ one_left s t c d says says' first (sub_left inside (at t) (at s) (inl (refl, q)))
      ])) in
      let direct : Path (FollowsIn B at_end) (DefinesAt p.body x) (at s) (at u) ms =
      path_inside p.body (part_not_enter s) (subst (λ (y : Point). IsUndisturbed p.body x (at s) y ms) e2 (subst (λ (y : Point). IsUndisturbed p.body x y z ms) e1 path)) in
      no_way_past B at_end (DefinesAt p.body x) di (end_outside B) t h.rest h.next inside stops (at s) (at u) ms outside
      (suffix_in h.from h.rest h.suffix (at u) (heads_in u h.behind h.from h.begins)) direct

  -- ---- both
  pub clash_excludes : (g : Graph) (placed rest : List Vertex) (c : Vertex) → parts_of p ≡ placed ++ c ∷ rest → Clashes g placed c → ¬ Fits g p
  clash_excludes g placed rest c split (inl (x, d, front, back, is, block, defines, still, uses, absent)) fits =
      let whole_ : parts_of p ≡ (front ++ d ∷ back) ++ c ∷ rest = split ∙ ap (λ (vs : List Vertex). vs ++ c ∷ rest) is in
      let (s, k, e, says) = part_says p d (subst (λ (vs : List Vertex). Contains vs d) (sym whole_)
      (Contains-append_left (front ++ d ∷ back) (c ∷ rest) d (Contains-append_right front (d ∷ back) d (in_here d back)))) in
      let (t, l, e', says') = part_says p c (subst (λ (vs : List Vertex). Contains vs c) (sym whole_) (Contains-append_right (front ++ d ∷ back) (c ∷ rest) c (in_here c rest))) in
      reach_parts g fits x front back rest still s t k l says says'
      (subst (λ (v : Vertex). IsReach g x front back rest v (Part t l)) e (subst (λ (v : Vertex). IsReach g x front back rest d v) e' (whole_, block, defines, uses, absent)))
  clash_excludes g placed rest c split (inr (x, d, u, in_placed, (w, m, e''), other, fresh, block, block', defines, defines', edge)) fits =
      let (s, k, e, says) = part_says p d (subst (λ (vs : List Vertex). Contains vs d) (sym split) (Contains-append_left placed (c ∷ rest) d in_placed)) in
      let (t, l, e', says') = part_says p c (subst (λ (vs : List Vertex). Contains vs c) (sym split) (Contains-append_right placed (c ∷ rest) c (in_here c rest))) in
      kill_parts g fits x placed rest s t w k l m says says'
      (subst (λ (v : Vertex). parts_of p ≡ placed ++ v ∷ rest) e' split)
      (subst (λ (v : Vertex). Contains placed v) e in_placed)
      (λ same. other (e'' ∙ same ∙ sym e'))
      (λ i. fresh (subst (λ (v : Vertex). Contains placed v) (sym e'') i))
      (subst (λ (v : Vertex). StandInOneBlock g v (Part w m)) e' (subst (λ (v : Vertex). StandInOneBlock g c v) e'' block'))
      (subst (λ (v : Vertex). name_of v ≡ Some x) e' defines')
      (subst (λ (v : Vertex). g.edge (edge_into v (Part w m) (Independent x))) e (subst (λ (v : Vertex). g.edge (edge_into d v (Independent x))) e'' edge))
