-- An allowed tree of items is an arrangement.
use Rattle.std.proofs.Common.{◌≡◌, ℕ, suc, ◌<◌, ◌≤◌, ◌↔◌, inl, inr, Bool, true, false, Some, None, List, [], ◌∷◌, All, length, map, Contains, refl, sym, ap, ◌∙◌, subst, arith}
use Rattle.std.specs.declared.cmp.Ordering.TheVariants.{Less}
use Rattle.std.specs.Cmp.Lexicographic.{texts_ties}
use Rattle.std.specs.Ordering.{is_eq}
use Rattle.std.specs.Str.{bytes_eq}
use Rattle.std.proofs.lemmas.Bool.{cases_Bool}
use Rattle.std.proofs.lemmas.Bool.Decides.{nat_tests}
use Rattle.std.proofs.lemmas.Cmp.{nat_list_eq_equiv}
use Rattle.std.proofs.lemmas.List.{append-nil}
use Rattle.std.proofs.lemmas.Option.{slice_get_within}
use Rattle.hpr_terms.specs.declared.limits.TheConstants.{MAX_LEVELS, MAX_PARTS}
use Rattle.hpr_terms.specs.Names.{IsVariable}
use Rattle.hpr_terms.specs.declared.tag.Tag.{Tag}
use Rattle.hpr_terms.proofs.Facts.{place_of, get_below, map_in, or_false}
use Rattle.hpr_syntax.specs.declared.rows.Content.{Content}
use Rattle.hpr_syntax.specs.Body.{Body, part_count}
use Rattle.hpr_syntax.specs.Issued.{Issued, IsIssued}
use Rattle.hpr_syntax.specs.Nests.{Standing, StandsAsIn, Says}
use Rattle.hpr_syntax.specs.Rows.{Parent}
use Rattle.hpr_syntax.specs.Parts.{same_tag, tags_of}
use Rattle.hpr_syntax.specs.Places.{StandsLeft}
use Rattle.hpr_syntax.specs.Proper.{IsProperPair}
use Rattle.hpr_syntax.specs.Shape.{IsProgram, shape, first_repeated, says_large, is_wrong, too_many}
use Rattle.hpr_syntax.specs.Skeleton.{skeleton, at}
use Rattle.hpr_syntax.specs.Tree.{Tree}
use Rattle.hpr_syntax.proofs.NoRefusal.{shaped}
use Rattle.hpr_graph.specs.declared.vertex.Vertex.{Vertex}
use Rattle.hpr_graph.specs.declared.vertex.Vertex.TheVariants.{Entry, Part, Final}
use Rattle.hpr_graph.specs.declared.edge.Kind.{Kind}
use Rattle.hpr_graph.specs.declared.edge.Kind.TheVariants.{Control}
use Rattle.hpr_graph.specs.Arrangements.{IsArrangement, IsOuter, Directs, edge_into}
use Rattle.hpr_graph.specs.Graphs.{Graph}
use Rattle.hpr_graph.specs.InOrder.{Ascends}
use Rattle.hpr_graph.specs.Order.{name_cmp}
use Rattle.hpr_graph.specs.ProgramGraph.{IsControl}
use Rattle.hpr_forest.proofs.Unique.{in_none, in_first, in_later}
use Rattle.hpr_forest.specs.Forest.{IsDistinct}
use Rattle.hpr_forest.specs.Trees.{Tree as ItemTree, Slot, preorder}
use Rattle.hpr_syntax.proofs.TagLemmas.{same_tag_is}
use Rattle.hpr_order.specs.declared.item.Item.{Item}
use Rattle.hpr_order.specs.Arranging.{AreIssued, IsProperItem}
use Rattle.hpr_order.specs.Items.{AreItems, IsItem, IsSource, slot_at, block_at, program_of}
use Rattle.hpr_order.specs.Limits.{IsAllowedTree}
use Rattle.hpr_order.proofs.BlockOf.{IsBlockOf, IsParent, same_part, says_in, in_says, stands_so, so_stands, slot_of_place, in_place}
use Rattle.hpr_order.proofs.Lefts.{LeftIn, is_left, left_once, stands_left}
use Rattle.hpr_order.proofs.ReadBack.{read_whole, block_there}
use Rattle.hpr_order.proofs.Shapes.{no_tag, tag_in, tag_of, tags_in, count_in, proper_in, none_in, shallow_in, IsApart, none_repeated, all_issued}

few_parts : (n : ℕ) → n ≤ MAX_PARTS → too_many n ≡ None
few_parts n le = grind (arith, nat_tests)

differ_name : (x y : List ℕ) → name_cmp x y ≡ Less → bytes_eq y x ≡ false
differ_name x y less = sym (sym (texts_ties x y) ∙ nat_list_eq_equiv.symm x y) ∙ ap is_eq less

pub names_apart : (xs : List (List ℕ)) → Ascends name_cmp xs → IsApart bytes_eq xs
names_apart [] up = tt
names_apart (x ∷ xs) up = (
  λ y a. (let (j, e) = place_of xs y a in differ_name x y (up 0 (suc j) x y (omega arith) refl e)),
  names_apart xs (λ i j x' y' lt a b. up (suc i) (suc j) x' y' (omega (arith, lt)) a b),
)

pub item_at : (items : List Item) (k : ℕ) → k < length items → (c : Content) × IsItem items k (tag_of items k) c
item_at items k lt = let (i, e) = get_below items k lt in (i.content, (i, e, sym (ap tag_in e), refl))

pub below_of : (items : List Item) (k : ℕ) (t : Tag) (c : Content) → IsItem items k t c → k < length items
below_of items k t c (i, e, it, ic) = slice_get_within items k i e

-- the items and the finals are those of the graph
pub record IsKnown (g : Graph) (xs : List Item) (fs : List (List ℕ)) : Type 0 where
  pub items : AreItems g xs
  pub finals : (x : List ℕ) → Contains fs x ↔ g.vertex (Final x)
  pub order : Ascends name_cmp fs

-- what a graph, issued numbers and finals have to be
pub record IsGiven (g : Graph) (xs : List Item) (ns : Issued) (fs : List (List ℕ)) : Type 0 where
  pub closed : (from to : Vertex) (k : Kind) → g.edge (edge_into from to k) → g.vertex from × g.vertex to
  pub items : AreItems g xs
  pub issued : AreIssued g ns
  pub proper : All IsProperItem xs
  pub ascending : IsIssued ns
  pub numbers : All IsProperPair ns
  pub names : All IsVariable fs
  pub finals : (x : List ℕ) → Contains fs x ↔ g.vertex (Final x)
  pub order : Ascends name_cmp fs
  pub outer : (v from : Vertex) (label : Bool) → IsOuter v → g.vertex v → g.edge (edge_into from v (Control label)) ↔ ((from ≡ Entry) × (label ≡ true))

pub part_same : (t u : Tag) (c d : Content) → Part t c ≡ Part u d → (t ≡ u) × (c ≡ d)
part_same t u c d e = ((cc), (cc))

pub known_of : (g : Graph) (xs : List Item) (ns : Issued) (fs : List (List ℕ)) → IsGiven g xs ns fs → IsKnown g xs fs
known_of g xs ns fs is = record { items = is.items; finals = is.finals; order = is.order }

abbrev up_tag : Parent → Tag
up_tag None = no_tag
up_tag (Some p) = p.0

abbrev up_label : Parent → Bool
up_label None = true
up_label (Some p) = p.1

-- where a part stands and where its control edge comes from
module _ (items : List Item) (once : (k j : ℕ) (t : Tag) (c d : Content) → IsItem items k t c → IsItem items j t d → k ≡ j) where
  pub top_source : (w : Slot) (up : Parent) (from : Vertex) (label : Bool) → IsParent items w up → up ≡ None → from ≡ Entry → label ≡ true → IsSource items w from label
  top_source None up from label p none f l = (f, l)
  top_source (Some (k, b)) up from label (t, c, i, e) none f l = absurd cc

  pub part_source : (w : Slot) (up : Parent) (from : Vertex) (label : Bool) (q : Tag) (d : Content) (k : ℕ) → IsParent items w up → up ≡ Some (q, label) → from ≡ Part q d → IsItem items k q d
      → IsSource items w from label
  part_source None up from label q d k p e f i = absurd cc
  part_source (Some (j, b)) up from label q d k (t, c, it, e) e' f i =
      let same : t ≡ q = sym (ap up_tag e) ∙ ap up_tag e' in
      let labels : b ≡ label = sym (ap up_label e) ∙ ap up_label e' in
      let it' : IsItem items j q c = subst (λ z. IsItem items j z c) same it in
      (sym labels, (q, d, f, subst (λ z. IsItem items z q d) (once k j q d c i it') i))

  pub source_control : (p : Tree) (w : Slot) (s : Standing) (from : Vertex) (label : Bool) (u : Tag) (c : Content) → ((j : ℕ) (t : Tag) (d : Content) → IsItem items j t d → Says p.body t d)
      → IsSource items w from label → IsParent items w s.parent → StandsAsIn p.body u s → s.content ≡ c → IsControl p label from (Part u c)
  source_control p None s from label u c says (f, l) up st is = inl (f, l, (s, st, is, up))
  source_control p (Some (j, b)) s from label u c says (l, (t, d, f, i)) (t', d', i', e) st is =
      let same : t' ≡ t = (same_part items j t' t d' d i' i).0 in
      inr (t, d, f, says j t d i, (u, s, st, ap (Part u) (sym is), e ∙ ap (λ z. Some (z, b)) same ∙ ap (λ z. Some (t, z)) (sym l)))

module _ (g : Graph) (items : List Item) (issued : Issued) (finals : List (List ℕ)) (is : IsGiven g items issued finals) where
  tags_apart : (l : List ℕ) → IsDistinct l → ((k : ℕ) → Contains l k → k < length items) → IsApart same_tag (map (tag_of items) l)
  tags_apart [] once within = tt
  tags_apart (k ∷ l) once within = (
    λ y a.
        (let (j, b, e) = map_in (tag_of items) l y a in
        elim (cases_Bool (same_tag y (tag_of items k))) [
          | inr no_tie ↦ no_tie
          | inl tie ↦ absurd (
              let (c, ic) = item_at items k (within k (in_first k l)) in
              let (d, jd) = item_at items j (within j (in_later k j l b)) in
              let same : tag_of items j ≡ tag_of items k = e ∙ same_tag_is y (tag_of items k) tie in
              let jd' : IsItem items j (tag_of items k) d = subst (λ z. IsItem items j z d) same jd in
              once.0 (subst (Contains l) (is.items.once j k (tag_of items k) d c jd' ic) b))
        ]),
    tags_apart l once.1 (λ j b. within j (in_later k j l b)),
  )

  tags_are : (t : ItemTree) (b : Body) → IsBlockOf items t b → tags_of b [] ≡ map (tag_of items) (preorder t)
  tags_are t b h = tags_in items t b [] h ∙ append-nil (map (tag_of items) (preorder t))

  shaped_tree : (t : ItemTree) (b : Body) → IsAllowedTree g items t → IsBlockOf items t b → shape (record { issued = issued; body = b; finals = finals }) ≡ None
  shaped_tree t b a h = shaped (record { issued = issued; body = b; finals = finals }) (record {
    tags = ap (first_repeated same_tag []) (tags_are t b h)
        ∙ none_repeated same_tag [] (map (tag_of items) (preorder t)) (tags_apart (preorder t) a.arranged.once a.arranged.within) (λ x y p q. absurd (in_none y q));
    issued = all_issued issued (tags_of b []) (λ u p.
        let (k, q, e) = map_in (tag_of items) (preorder t) u (subst (λ z. Contains z u) (tags_are t b h) p) in
        let (c, i) = item_at items k (a.arranged.within k q) in
        let i' : IsItem items k u c = subst (λ z. IsItem items k z c) e i in
        is.issued u c ((is.items.parts u c).1 (k, i')));
    levels = shallow_in (slot_at items) items MAX_LEVELS 0 t b None (omega arith) refl a.arranged.stands h (λ k q. a.limits.levels k (a.arranged.within k q));
    expressions = none_in items says_large t b (λ k u c i. (or_false (says_large c) (is_wrong c) (a.limits.contents k u c i)).0) h;
    variables = none_in items is_wrong t b (λ k u c i. (or_false (says_large c) (is_wrong c) (a.limits.contents k u c i)).1) h;
    parts = few_parts (part_count b) (let le = a.limits.parts in omega (arith, count_in items t b h, a.arranged.len));
    names = none_repeated bytes_eq [] finals (names_apart finals is.order) (λ x y p q. absurd (in_none y q));
  })

  program_of_tree : (t : ItemTree) (b : Body) → IsAllowedTree g items t → IsBlockOf items t b → IsProgram (record { issued = issued; body = b; finals = finals })
  program_of_tree t b a h = record {
    proper = record { ascending = is.ascending; numbers = is.numbers; body = proper_in items t b is.proper h; finals = is.names };
    shape = shaped_tree t b a h;
  }

  item_in : (t : ItemTree) (b : Body) (u : Tag) (c : Content) → IsAllowedTree g items t → g.vertex (Part u c) → (k : ℕ) × Contains (preorder t) k × IsItem items k u c
  item_in t b u c a v = let (k, i) = (is.items.parts u c).0 v in (k, a.arranged.all k (below_of items k u c i), i)

  -- the control edges into a part
  source_of : (t : ItemTree) (b : Body) (from : Vertex) (label : Bool) (u : Tag) (c : Content) → IsAllowedTree g items t → IsBlockOf items t b
      → IsControl (record { issued = issued; body = b; finals = finals }) label from (Part u c) → (k : ℕ) × IsItem items k u c × IsSource items (slot_at items k) from label
  source_of t b from label u c a h (inl (f, l, (s, st, says, top))) =
      let (k, w, p, i, up) = stands_so items t b [] None None u s h refl st in (
        k,
        subst (IsItem items k u) says i,
        subst (λ z. IsSource items z from label) (sym (slot_of_place (slot_at items) t None k w a.arranged.stands p)) (top_source items is.items.once w s.parent from label up top f l),
      )
  source_of t b from label u c a h (inr (q, d, f, says_q, (u', s, st, part, parent))) =
      let (k, w, p, i, up) = stands_so items t b [] None None u' s h refl st in
      let (j, _, ij) = says_in items t b q d h says_q in
      let same_tag : u' ≡ u = sym (part_same u u' c s.content part).0 in
      let same_content : s.content ≡ c = sym (part_same u u' c s.content part).1 in (
        k,
        subst (λ z. IsItem items k z c) same_tag (subst (IsItem items k u') same_content i),
        subst (λ z. IsSource items z from label) (sym (slot_of_place (slot_at items) t None k w a.arranged.stands p)) (part_source items is.items.once w s.parent from label q d j up parent f ij),
      )

  controls : (t : ItemTree) (b : Body) (from : Vertex) (label : Bool) (u : Tag) (c : Content) → IsAllowedTree g items t → IsBlockOf items t b
      → IsControl (record { issued = issued; body = b; finals = finals }) label from (Part u c) ↔ g.edge (edge_into from (Part u c) (Control label))
  controls t b from label u c a h = (
    λ ctl. (let (k, i, src) = source_of t b from label u c a h ctl in (is.items.control k u c from label i).1 src),
    λ e.
        (let (k, p, i) = item_in t b u c a (is.closed from (Part u c) (Control label) e).1 in
        let (w, pl) = in_place t None k p in
        let src = (is.items.control k u c from label i).0 e in
        let (s, st, says, up) = so_stands items t b [] None None k w u c h refl pl i in
        source_control items is.items.once (record { issued = issued; body = b; finals = finals }) w s from label u c
        (λ j t' d ij. in_says items t b t' d j h (a.arranged.all j (below_of items j t' d ij)) ij)
        (subst (λ z. IsSource items z from label) (slot_of_place (slot_at items) t None k w a.arranged.stands pl) src) up st says),
  )

  direct : (t : ItemTree) (b : Body) (s u : Tag) (c d : Content) (k : Kind) → IsAllowedTree g items t → IsBlockOf items t b
      → g.edge (edge_into (Part s c) (Part u d) k) → Directs k → ¬ StandsLeft (skeleton b) (at u) (at s)
  direct t b s u c d k a h e dir left =
      let (j', i', l, (d', ju), (c', is')) = stands_left items t b u s h left in
      let (vs, vu) = is.closed (Part s c) (Part u d) k e in
      let (i, is_s) = (is.items.parts s c).0 vs in
      let (j, is_u) = (is.items.parts u d).0 vu in
      let same_s : i ≡ i' = is.items.once i i' s c c' is_s is' in
      let same_u : j ≡ j' = is.items.once j j' u d d' is_u ju in
      let l' : LeftIn (preorder t) j i = subst (λ z. LeftIn (preorder t) j z) (sym same_s) (subst (λ z. LeftIn (preorder t) z i') (sym same_u) l) in
      elim (a.arranged.respects i j (k, s, u, c, d, is_s, is_u, e, dir)) [
        | inl same ↦ (let twice : LeftIn (preorder t) j j = subst (λ z. LeftIn (preorder t) j z) same l' in left_once (preorder t) j j a.arranged.once twice twice)
        | inr other ↦ left_once (preorder t) j i a.arranged.once l' (is_left (preorder t) i j other)
      ]

  block_arranged : (t : ItemTree) (b : Body) → IsAllowedTree g items t → IsBlockOf items t b → IsArrangement g issued (record { issued = issued; body = b; finals = finals })
  block_arranged t b a h = record {
    program = program_of_tree t b a h;
    numbers = refl;
    parts = λ u c. (
      (λ says. let (k, p, i) = says_in items t b u c h says in (is.items.parts u c).1 (k, i)),
      (λ v. let (k, p, i) = item_in t b u c a v in in_says items t b u c k h p i),
    );
    control = λ label from u c. controls t b from label u c a h;
    finals = is.finals;
    ascending = is.order;
    outer = is.outer;
    directed = λ s u c d k e dir. direct t b s u c d k a h e dir;
  }

  -- the block of an allowed tree, read back from its preorder
  pub block_read : (t : ItemTree) → IsAllowedTree g items t → (b : Body) × IsBlockOf items t b × (block_at items (preorder t) None ≡ b)
  block_read t a =
      let (b, h) = block_there items t None is.items.held a.arranged.within a.arranged.stands in
      (b, h, read_whole items t b a.arranged.stands h a.arranged.once)

  pub tree_arranged : (t : ItemTree) → IsAllowedTree g items t → IsArrangement g issued (program_of items issued finals (preorder t))
  tree_arranged t a =
      let (b, h, e) = block_read t a in
      subst (λ z. IsArrangement g issued (record { issued = issued; body = z; finals = finals })) (sym e) (block_arranged t b a h)
