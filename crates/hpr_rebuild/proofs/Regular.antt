-- The control edges of a program: no tag has two contents, and each vertex other than Entry has its one place under Entry.
use Rattle.std.proofs.Common.{◌≡◌, ◌≢◌, ℕ, Bool, true, false, inl, inr, Some, None, List, [], ◌∷◌, ◌++◌, refl, sym, ap, ◌∙◌, subst}
use Rattle.std.proofs.lemmas.Option.{same_Some}
use Rattle.hpr_terms.specs.declared.tag.Tag.{Tag}
use Rattle.hpr_syntax.specs.declared.rows.Content.{Content}
use Rattle.hpr_syntax.specs.declared.rows.Content.TheVariants.{If, While}
use Rattle.hpr_syntax.specs.Rows.{content_by, Parent}
use Rattle.hpr_syntax.specs.Body.{Body, done, action, branch, loop}
use Rattle.hpr_syntax.specs.Nests.{Standing, StandsAs, StandsAsIn, Says}
use Rattle.hpr_syntax.specs.Shape.{IsProgram}
use Rattle.hpr_syntax.specs.Skeleton.{at}
use Rattle.hpr_syntax.specs.Tree.{Tree}
use Rattle.hpr_paths.specs.Spots.{Spot}
use Rattle.hpr_paths.specs.Successors.{spots}
use Rattle.hpr_paths.specs.Numbers.{IsNumberOf}
use Rattle.hpr_paths.proofs.Nested.{number_of_says, nest_of_number}
use Rattle.hpr_paths.proofs.Tags.{number_once}
use Rattle.hpr_graph.specs.declared.vertex.Vertex.{Vertex}
use Rattle.hpr_graph.specs.declared.vertex.Vertex.TheVariants.{Entry, Init, Part, Final}
use Rattle.hpr_graph.specs.declared.edge.Kind.TheVariants.{Control}
use Rattle.hpr_graph.specs.declared.edge.Edge.{Edge}
use Rattle.hpr_graph.specs.Graphs.{Graph, Same}
use Rattle.hpr_graph.specs.ProgramGraph.{IsTop, IsVertexOf, graph_of}
use Rattle.hpr_graph.specs.Arrangements.{edge_into}
use Rattle.hpr_graph.specs.Answer.{IsPart, Fits, HasNoProgram}
use Rattle.hpr_paths.proofs.Says.{says_of_standing}
use Rattle.hpr_graph.proofs.Laws.{part_tag}
use Rattle.hpr_build.specs.Places.{Place, places, place_at, IsParentOf}
use Rattle.hpr_build.proofs.PlaceIn.{place_of_part}
use Rattle.hpr_build.proofs.PlaceLaws.{number_of_part, part_of_standing}
use Rattle.hpr_order.specs.declared.tree.OrderError.{OrderError}
use Rattle.hpr_order.specs.declared.tree.OrderError.TheVariants.{TwoContents, Impossible, Memory}
use Rattle.hpr_order.specs.Regions.{AllowsIn, Allows, Controls, IsControlKind, LeadsDown, IsUnderEntry, IsPossible, IsImpossible, HasTwoContents, IsRefusal}
use Rattle.hpr_rebuild.proofs.Parts.{says_once}

-- ---- graphs that are the same

leads_same : (g h : Graph) → Same g h → (a : Vertex) (es : List Edge) (b : Vertex) → LeadsDown g a es b → LeadsDown h a es b
leads_same g h s a [] b e = e
leads_same g h s a (e ∷ es) b (there, kind, from, more) = ((s.1 e).0 there, kind, from, leads_same g h s e.to es b more)

possible_same : (g h : Graph) → Same g h → (v : Vertex) → IsPossible g v → IsPossible h v
possible_same g h s v is =
    let (from, label, there, only) = is.one in
    let (es, leads) = is.reached in
    record {
      one = (
        from,
        label,
        (s.1 (edge_into from v (Control label))).0 there,
        λ other mark k. only other mark ((s.1 (edge_into other v (Control mark))).1 k),
      );
      allowed = λ other mark k. is.allowed other mark ((s.1 (edge_into other v (Control mark))).1 k);
      reached = (es, leads_same g h s Entry es v leads);
    }

leads_more : (g : Graph) (a : Vertex) (es : List Edge) (e : Edge) → g.edge e → IsControlKind e.kind → LeadsDown g a es e.from → LeadsDown g a (es ++ e ∷ []) e.to
leads_more g a [] e there kind is = (there, kind, sym is, refl)
leads_more g a (f ∷ es) e there kind (has, control, from, more) = (has, control, from, leads_more g f.to es e there kind more)

reached_more : (g : Graph) (from v : Vertex) (label : Bool) → Controls g from label v → IsUnderEntry g from → IsUnderEntry g v
reached_more g from v label there (es, leads) =
    (es ++ edge_into from v (Control label) ∷ [], leads_more g Entry es (edge_into from v (Control label)) there (label, refl) leads)

-- ---- a program

parent_one : (S : List Spot) (x : Place) (a b : Parent) → IsParentOf S x.parent a → IsParentOf S x.parent b → a ≡ b
parent_one S x a b = elim x.parent as (λ up. IsParentOf S up a → IsParentOf S up b → a ≡ b) [
  | None ↦ λ h k. h ∙ sym k
  | Some up ↦ λ (w, tag, is) (u, tag', is'). is ∙ ap (λ (t : Tag). Some (t, up.label)) (same_Some w u (sym tag ∙ tag')) ∙ sym is'
]

module _ (t : Tree) (prog : IsProgram t) where
  abbrev G : Graph
  G = graph_of t

  -- a part stands under one parent
  parent_once : (v : Tag) (s r : Standing) → StandsAsIn t.body v s → StandsAsIn t.body v r → s.parent ≡ r.parent
  parent_once v s r h k =
      let (n, p, at_n, tag, content, up) = part_of_standing t v s h in
      let (m, q, at_m, tag', content', up') = part_of_standing t v r k in
      let number : IsNumberOf (spots t) n (at v) = subst (λ (u : Tag). IsNumberOf (spots t) n (at u)) tag (number_of_part t n p at_n) in
      let number' : IsNumberOf (spots t) m (at v) = subst (λ (u : Tag). IsNumberOf (spots t) m (at u)) tag' (number_of_part t m q at_m) in
      let same : n ≡ m = number_once t n m (at v) prog number number' in
      let place : p ≡ q =
      same_Some p q (sym (place_of_part t n p at_n).1 ∙ ap (λ (k : ℕ). place_at (places t) k) same ∙ (place_of_part t m q at_m).1) in
      parent_one (spots t) p s.parent r.parent up (subst (λ (x : Place). IsParentOf (spots t) x.parent r.parent) (sym place) up')

  -- the vertex from which the control edge into what stands right under a parent comes, with its label
  abbrev IsHolder : Parent → Vertex → Bool → Type 0
  IsHolder None from label = (from ≡ Entry) × (label ≡ true)
  IsHolder (Some (p, b)) from label = (label ≡ b) × ((c : Content) × (from ≡ Part p c) × Says t.body p c)

  holder_one : (up : Parent) (from other : Vertex) (label mark : Bool) → IsHolder up from label → IsHolder up other mark → (other ≡ from) × (mark ≡ label)
  holder_one None from other label mark (a, b) (c, d) = (c ∙ sym a, d ∙ sym b)
  holder_one (Some (p, b)) from other label mark (is, (c, e, says)) (is', (d, e', says')) =
      (e' ∙ ap (λ (k : Content). Part p k) (says_once t prog p d c says' says) ∙ sym e, is' ∙ sym is)

  -- what stands right under a parent is controlled by its holder, and by nothing else
  controlled : (up : Parent) (from : Vertex) (label : Bool) (v : Tag) (s : Standing) → IsHolder up from label → StandsAsIn t.body v s → s.parent ≡ up
      → Controls G from label (Part v s.content)
  controlled None from label v s (is, mark) stands up = inl (is, mark, (s, stands, refl, up))
  controlled (Some (p, b)) from label v s (is, (c, from_is, says)) stands up =
      inr (p, c, from_is, says, (v, s, stands, refl, up ∙ ap (λ (l : Bool). Some (p, l)) (sym is)))

  holder_of : (other : Vertex) (mark : Bool) (v : Tag) (s : Standing) → StandsAsIn t.body v s → Controls G other mark (Part v s.content) → IsHolder s.parent other mark
  holder_of other mark v s stands (inl (is, true_is, (r, stands', content, none))) =
      subst (λ (up : Parent). IsHolder up other mark) (sym (parent_once v s r stands stands' ∙ none)) (is, true_is)
  holder_of other mark v s stands (inr (p, c, is, says, (w, r, stands', e, under))) =
      let same : v ≡ w = part_tag v w s.content r.content e in
      let there : StandsAsIn t.body v r = subst (λ (u : Tag). StandsAsIn t.body u r) (sym same) stands' in
      subst (λ (up : Parent). IsHolder up other mark) (sym (parent_once v s r stands there ∙ under)) (refl, (c, is, says))

  -- a holder that control edges reach, and that may have something right under it
  abbrev MayHold : Parent → Vertex → Bool → Type 0
  MayHold up from label = (to : Vertex) → IsPart to → Allows from label to

  pub record Held (up : Parent) : Type 0 where
    pub from : Vertex
    pub label : Bool
    pub holder : IsHolder up from label
    pub allows : MayHold up from label
    pub reached : IsUnderEntry G from

  abbrev Inside : List Tag → Parent → Body → Type 0
  Inside nest up b = (v : Tag) (s : Standing) → StandsAs nest up b v s → StandsAsIn t.body v s

  abbrev standing : Content → List Tag → Parent → Standing
  standing c nest up = record { content = c; nest = nest; parent = up }

  holds : (v : Tag) (c : Content) (nest : List Tag) (up : Parent) (label : Bool) → Held up → StandsAsIn t.body v (standing c nest up) → AllowsIn c label → Held (Some (v, label))
  holds v c nest up label h stands allows = record {
    from = Part v c;
    label = label;
    holder = (refl, (c, refl, says_of_standing t.body [] None v (standing c nest up) stands));
    allows = λ to part. (allows, part);
    reached = reached_more G h.from (Part v c) h.label (controlled up h.from h.label v (standing c nest up) h.holder stands refl) h.reached;
  }

  held_here : (up : Parent) (c : Content) (nest : List Tag) (s : Standing) → Held up → s ≡ standing c nest up → Held s.parent
  held_here up c nest s h is = subst (λ (r : Standing). Held r.parent) (sym is) h

  held : (b : Body) (nest : List Tag) (up : Parent) → Held up → Inside nest up b → (v : Tag) (s : Standing) → StandsAs nest up b v s → Held s.parent
  held done nest up h inside v s stands = absurd stands
  held (action w d rest) nest up h inside v s (inl (tag, is)) = held_here up (content_by d) nest s h is
  held (action w d rest) nest up h inside v s (inr later) = held rest nest up h (λ u r i. inside u r (inr i)) v s later
  held (branch w e a b rest) nest up h inside v s (inl (tag, is)) = held_here up (If e) nest s h is
  held (branch w e a b rest) nest up h inside v s (inr (inl in_a)) =
      held a nest (Some (w, true)) (holds w (If e) nest up true h (inside w (standing (If e) nest up) (inl (refl, refl))) tt) (λ u r i. inside u r (inr (inl i))) v s in_a
  held (branch w e a b rest) nest up h inside v s (inr (inr (inl in_b))) =
      held b nest (Some (w, false)) (holds w (If e) nest up false h (inside w (standing (If e) nest up) (inl (refl, refl))) tt) (λ u r i. inside u r (inr (inr (inl i)))) v s in_b
  held (branch w e a b rest) nest up h inside v s (inr (inr (inr later))) = held rest nest up h (λ u r i. inside u r (inr (inr (inr i)))) v s later
  held (loop w e b rest) nest up h inside v s (inl (tag, is)) = held_here up (While e) (nest ++ (w ∷ [])) s h is
  held (loop w e b rest) nest up h inside v s (inr (inl in_b)) =
      held b (nest ++ (w ∷ [])) (Some (w, true))
      (holds w (While e) (nest ++ (w ∷ [])) up true h (inside w (standing (While e) (nest ++ (w ∷ [])) up) (inl (refl, refl))) refl)
      (λ u r i. inside u r (inr (inl i))) v s in_b
  held (loop w e b rest) nest up h inside v s (inr (inr later)) = held rest nest up h (λ u r i. inside u r (inr (inr i))) v s later

  not_entry : (to : Vertex) → IsPart to → to ≢ Entry
  not_entry to (w, c, is) e = let wrong : Part w c ≡ Entry = sym is ∙ e in absurd cc

  at_top : Held None
  at_top = record { from = Entry; label = true; holder = (refl, refl); allows = λ to part. (refl, not_entry to part); reached = ([], refl) }

  part_possible : (v : Tag) (c : Content) → Says t.body v c → IsPossible G (Part v c)
  part_possible v c says =
      let (n, role) = number_of_says t v c says in
      let (s, stands, content, nest) = nest_of_number t n v c role in
      let h = held t.body [] None at_top (λ u r i. i) v s stands in
      let there : Controls G h.from h.label (Part v s.content) = controlled s.parent h.from h.label v s h.holder stands refl in
      let one : (other : Vertex) (mark : Bool) → Controls G other mark (Part v s.content) → (other ≡ h.from) × (mark ≡ h.label) =
      λ other mark k. holder_one s.parent h.from other h.label mark h.holder (holder_of other mark v s stands k) in
      subst (λ (d : Content). IsPossible G (Part v d)) content (record {
        one = (h.from, h.label, there, one);
        allowed = λ other mark k.
            subst (λ (f : Vertex). Allows f mark (Part v s.content)) (sym (one other mark k).0)
            (subst (λ (l : Bool). Allows h.from l (Part v s.content)) (sym (one other mark k).1) (h.allows (Part v s.content) (v, s.content, refl)));
        reached = reached_more G h.from (Part v s.content) h.label there h.reached;
      })

  end_possible : (v : Vertex) → IsTop t v → v ≢ Entry → ((w : Tag) (c : Content) → v ≡ Part w c → ⊥) → IsPossible G v
  end_possible v top ne never = record {
    one = (
      Entry,
      true,
      inl (refl, refl, top),
      λ other mark k. elim k [
        | inl (is, label, there) ↦ (is, label)
        | inr (p, c, is, says, (w, s, stands, e, under)) ↦ absurd (never w s.content e)
      ],
    );
    allowed = λ other mark k. elim k [
      | inl (is, label, there) ↦ subst (λ (f : Vertex). Allows f mark v) (sym is) (label, ne)
      | inr (p, c, is, says, (w, s, stands, e, under)) ↦ absurd (never w s.content e)
    ];
    reached = reached_more G Entry v true (inl (refl, refl, top)) ([], refl);
  }

  pub possible : (v : Vertex) → IsVertexOf t v → v ≢ Entry → IsPossible G v
  possible Entry h ne = absurd (ne refl)
  possible (Init x) h ne = end_possible (Init x) h ne (λ w c e. absurd cc)
  possible (Part v c) h ne = part_possible v c h
  possible (Final x) h ne = end_possible (Final x) h ne (λ w c e. absurd cc)

-- ---- what a program's graph never has

pub no_two_contents : (g : Graph) (p : Tree) → IsProgram p → Fits g p → (t : Tag) → ¬ HasTwoContents g t
no_two_contents g p prog fits t (c, d, ne, h, k) = ne (says_once p prog t c d ((fits.0 (Part t c)).1 h) ((fits.0 (Part t d)).1 k))

pub none_impossible : (g : Graph) (p : Tree) → IsProgram p → Fits g p → (v : Vertex) → ¬ IsImpossible g v
none_impossible g p prog fits v (there, ne, never) = never (possible_same (graph_of p) g fits v (possible p prog v ((fits.0 v).1 there) ne))

-- what `regions` refuses has no program
pub refused : (g : Graph) (e : OrderError) → IsRefusal g e → e ≢ Memory → HasNoProgram g
refused g (TwoContents t) h ne p prog fits = no_two_contents g p prog fits t h.0
refused g (Impossible v) h ne p prog fits = none_impossible g p prog fits v h.1.0
refused g Memory h ne p prog fits = absurd (ne refl)
