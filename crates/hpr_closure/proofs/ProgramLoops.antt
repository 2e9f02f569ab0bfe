-- In the graph of a program the loop of a carried edge leads to the edge's target, by control edges.
use Rattle.std.proofs.Common.{◌≡◌, ℕ, Bool, true, false, inl, inr, Some, None, List, [], ◌∷◌, ◌++◌, refl, sym, subst}
use Rattle.hpr_terms.specs.declared.tag.Tag.{Tag}
use Rattle.hpr_syntax.specs.declared.rows.Content.{Content}
use Rattle.hpr_syntax.specs.declared.rows.Content.TheVariants.{If, While}
use Rattle.hpr_syntax.specs.Rows.{content_by, Parent}
use Rattle.hpr_syntax.specs.Body.{Body, done, action, branch, loop}
use Rattle.hpr_syntax.specs.Tree.{Tree}
use Rattle.hpr_syntax.specs.Skeleton.{Point, at, exit, StandsIn, skeleton}
use Rattle.hpr_syntax.specs.Nests.{Standing, StandsAs, StandsAsIn, Says}
use Rattle.hpr_syntax.specs.Places.{EnclosesBoth}
use Rattle.hpr_syntax.proofs.TagLemmas.{point_tag}
use Rattle.hpr_graph.specs.declared.vertex.Vertex.{Vertex}
use Rattle.hpr_graph.specs.declared.vertex.Vertex.TheVariants.{Entry, Init, Part, Final}
use Rattle.hpr_graph.specs.declared.edge.Kind.{Kind}
use Rattle.hpr_graph.specs.declared.edge.Kind.TheVariants.{Control}
use Rattle.hpr_graph.specs.declared.edge.Edge.{Edge}
use Rattle.hpr_graph.specs.ProgramGraph.{Reads, IsEdgeBy, graph_of}
use Rattle.hpr_graph.specs.Slices.{LeadsTo}
use Rattle.hpr_paths.proofs.DirectWays.{encloses_in}
use Rattle.hpr_paths.proofs.Programs.{end_outside}
use Rattle.hpr_paths.proofs.Says.{says_of_standing}
use Rattle.hpr_graph.specs.Whole.{HasLoops, SaysOnce}

module _ (t : Tree) where
  -- what stands so in a block stands so in the program
  abbrev Inside : List Tag → Parent → Body → Type 0
  Inside nest up b = (v : Tag) (s : Standing) → StandsAs nest up b v s → StandsAsIn t.body v s

  -- control edges lead from the part p, which says c, to the part v
  abbrev Leads : Tag → Content → Tag → Type 0
  Leads p c v = (d : Content) × Says t.body v d × (es : List Edge) × LeadsTo (graph_of t) (Part p c) es (Part v d)

  abbrev standing : Content → List Tag → Parent → Standing
  standing c nest up = record { content = c; nest = nest; parent = up }

  abbrev control : Tag → Content → Bool → Tag → Content → Edge
  control p c label v d = record { to = Part v d; from = Part p c; kind = Control label }

  right_under : (p : Tag) (c : Content) (label : Bool) (v : Tag) (d : Content) (nest : List Tag) → Says t.body p c → StandsAsIn t.body v (standing d nest (Some (p, label))) → (graph_of t).edge (control p c label v d)
  right_under p c label v d nest says stands = inr (p, c, refl, says, (v, standing d nest (Some (p, label)), stands, refl, refl))

  here : (p : Tag) (c : Content) (label : Bool) (v w : Tag) (d : Content) (nest : List Tag) → Says t.body p c → StandsAsIn t.body v (standing d nest (Some (p, label))) → w ≡ v → Leads p c w
  here p c label v w d nest says stands same =
      subst (Leads p c) (sym same)
      (d, says_of_standing t.body [] None v (standing d nest (Some (p, label))) stands, control p c label v d ∷ [], (right_under p c label v d nest says stands, tt, refl, refl))

  below : (p : Tag) (c : Content) (label : Bool) (v : Tag) (d : Content) (nest : List Tag) (w : Tag) → Says t.body p c → StandsAsIn t.body v (standing d nest (Some (p, label))) → Leads v d w → Leads p c w
  below p c label v d nest w says stands (f, says_w, es, leads) = (f, says_w, control p c label v d ∷ es, (right_under p c label v d nest says stands, tt, refl, leads))

  -- a part leads to each part in its blocks
  under : (b : Body) (nest : List Tag) (p : Tag) (label : Bool) (c : Content) → Says t.body p c → Inside nest (Some (p, label)) b → (w : Tag) → StandsIn (skeleton b) (at w) → Leads p c w
  under done nest p label c says inside w h = absurd h
  under (action v d rest) nest p label c says inside w (inl is) = here p c label v w (content_by d) nest says (inside v (standing (content_by d) nest (Some (p, label))) (inl (refl, refl))) (point_tag w v is)
  under (action v d rest) nest p label c says inside w (inr h) = under rest nest p label c says (λ u s g. inside u s (inr g)) w h
  under (branch v e a b rest) nest p label c says inside w (inl is) = here p c label v w (If e) nest says (inside v (standing (If e) nest (Some (p, label))) (inl (refl, refl))) (point_tag w v is)
  under (branch v e a b rest) nest p label c says inside w (inr (inl h)) =
      let stands = inside v (standing (If e) nest (Some (p, label))) (inl (refl, refl)) in
      below p c label v (If e) nest w says stands (under a nest v true (If e) (says_of_standing t.body [] None v (standing (If e) nest (Some (p, label))) stands) (λ u s g. inside u s (inr (inl g))) w h)
  under (branch v e a b rest) nest p label c says inside w (inr (inr (inl h))) =
      let stands = inside v (standing (If e) nest (Some (p, label))) (inl (refl, refl)) in
      below p c label v (If e) nest w says stands (under b nest v false (If e) (says_of_standing t.body [] None v (standing (If e) nest (Some (p, label))) stands) (λ u s g. inside u s (inr (inr (inl g)))) w h)
  under (branch v e a b rest) nest p label c says inside w (inr (inr (inr h))) = under rest nest p label c says (λ u s g. inside u s (inr (inr (inr g)))) w h
  under (loop v e b rest) nest p label c says inside w (inl is) =
      here p c label v w (While e) (nest ++ (v ∷ [])) says (inside v (standing (While e) (nest ++ (v ∷ [])) (Some (p, label))) (inl (refl, refl))) (point_tag w v is)
  under (loop v e b rest) nest p label c says inside w (inr (inl h)) =
      let stands = inside v (standing (While e) (nest ++ (v ∷ [])) (Some (p, label))) (inl (refl, refl)) in
      below p c label v (While e) (nest ++ (v ∷ [])) w says stands
      (under b (nest ++ (v ∷ [])) v true (While e) (says_of_standing t.body [] None v (standing (While e) (nest ++ (v ∷ [])) (Some (p, label))) stands) (λ u s g. inside u s (inr (inl g))) w h)
  under (loop v e b rest) nest p label c says inside w (inr (inr h)) = under rest nest p label c says (λ u s g. inside u s (inr (inr g))) w h

  abbrev LoopLeads : Tag → Tag → Type 0
  LoopLeads l w = (c : Content) × Says t.body l c × Leads l c w

  -- a loop leads to each part that it encloses, itself too
  enclosed : (b : Body) (nest : List Tag) (up : Parent) → Inside nest up b → (a : Point) (w l : Tag) → EnclosesBoth (skeleton b) a (at w) l → LoopLeads l w
  enclosed done nest up inside a w l h = absurd h
  enclosed (action v d rest) nest up inside a w l h = enclosed rest nest up (λ u s g. inside u s (inr g)) a w l h
  enclosed (branch v e b c rest) nest up inside a w l (inl h) = enclosed b nest (Some (v, true)) (λ u s g. inside u s (inr (inl g))) a w l h
  enclosed (branch v e b c rest) nest up inside a w l (inr (inl h)) = enclosed c nest (Some (v, false)) (λ u s g. inside u s (inr (inr (inl g)))) a w l h
  enclosed (branch v e b c rest) nest up inside a w l (inr (inr h)) = enclosed rest nest up (λ u s g. inside u s (inr (inr (inr g)))) a w l h
  enclosed (loop v e b rest) nest up inside a w l (inl (is, first, last)) =
      let says : Says t.body v (While e) =
      says_of_standing t.body [] None v (standing (While e) (nest ++ (v ∷ [])) up) (inside v (standing (While e) (nest ++ (v ∷ [])) up) (inl (refl, refl))) in
      subst (λ (m : Tag). LoopLeads m w) (sym is) (
        While e,
        says,
        elim last [
          | inl itself ↦ subst (Leads v (While e)) (sym (point_tag w v itself)) (While e, says, [], refl)
          | inr within ↦ under b (nest ++ (v ∷ [])) v true (While e) says (λ u s g. inside u s (inr (inl g))) w within
        ],
      )
  enclosed (loop v e b rest) nest up inside a w l (inr (inl h)) = enclosed b (nest ++ (v ∷ [])) (Some (v, true)) (λ u s g. inside u s (inr (inl g))) a w l h
  enclosed (loop v e b rest) nest up inside a w l (inr (inr h)) = enclosed rest nest up (λ u s g. inside u s (inr (inr g))) a w l h

  abbrev Lands : Vertex → Point → Type 0
  Lands to z = (w : Tag) × (d : Content) × (to ≡ Part w d) × Says t.body w d × (z ≡ at w)

  lands : (x : List ℕ) (to : Vertex) (a z : Point) (l : Tag) → Reads t x to z → EnclosesBoth (skeleton t.body) a z l → Lands to z
  lands x Entry a z l reads h = absurd reads
  lands x (Init y) a z l reads h = absurd reads
  lands x (Part w d) a z l (uses, says, is) h = (w, d, refl, says, is)
  lands x (Final y) a z l (same, named, is) h = absurd (end_outside (skeleton t.body) (encloses_in (skeleton t.body) a exit l (subst (λ (p : Point). EnclosesBoth (skeleton t.body) a p l) is h)).1)

  loop_leads : SaysOnce t → (l w : Tag) (c d : Content) → Says t.body l c → Says t.body w d → LoopLeads l w → (es : List Edge) × LeadsTo (graph_of t) (Part l c) es (Part w d)
  loop_leads once l w c d says_l says_w (c', says_l', (d', says_w', es, leads)) =
      (es, subst (λ (k : Content). LeadsTo (graph_of t) (Part l k) es (Part w d)) (once l c' c says_l' says_l) (subst (λ (k : Content). LeadsTo (graph_of t) (Part l c') es (Part w k)) (once w d' d says_w' says_w) leads))

  pub program_loops : SaysOnce t → HasLoops (graph_of t)
  program_loops once e x w has is =
      let (a, z, marks, l, c, (defs, reads, path), loop_is, says, around, carries) = subst (λ (k : Kind). IsEdgeBy t k e.from e.to) is has in
      let (v, d, to_is, says_to, z_is) = lands x e.to a z l reads around in
      let (es, leads) = loop_leads once l v c d says says_to (enclosed t.body [] None (λ u s g. g) a v l (subst (λ (p : Point). EnclosesBoth (skeleton t.body) a p l) z_is around)) in
      (es, subst (λ (u : Vertex). LeadsTo (graph_of t) u es e.to) (sym loop_is) (subst (λ (u : Vertex). LeadsTo (graph_of t) (Part l c) es u) (sym to_is) leads))
