-- The parts that aren't marked are those that are split off, and what is made of them is what is searched.
use Rattle.std.proofs.Common.{◌≡◌, ℕ, ◌+◌, ◌≤◌, Bool, true, false, ◌↔◌, ◌⊎◌, inl, inr, Option, Some, IfSome, IsNone, is_some, List, [], ◌∷◌, length, Contains, refl, sym, ap, ◌∙◌, subst, arith, ◌==◌, All, if◌then◌else◌, get_or, slice_get}
use Rattle.std.specs.List.{AllByRecursion}
use Rattle.std.proofs.lemmas.List.Elements.{recursion_from_All}
use Rattle.std.proofs.lemmas.Option.{slice_get_within}
use Rattle.hpr_terms.specs.declared.tag.Tag.{Tag}
use Rattle.hpr_terms.proofs.Facts.{compared, contains_at, in_none, in_cons, in_here, in_later, place_of, some_inj}
use Rattle.hpr_syntax.specs.declared.rows.Content.{Content}
use Rattle.hpr_syntax.specs.Issued.{Issued, issued_to}
use Rattle.hpr_syntax.specs.Parts.{same_tag}
use Rattle.hpr_syntax.specs.Proper.{IsProperPair}
use Rattle.hpr_syntax.specs.Tree.{Tree}
use Rattle.hpr_syntax.proofs.TagLemmas.{same_tag_is, same_tag_itself}
use Rattle.hpr_graph.specs.declared.vertex.Vertex.{Vertex}
use Rattle.hpr_graph.specs.declared.vertex.Vertex.TheVariants.{Entry, Init, Part, Final}
use Rattle.hpr_graph.specs.Answer.{AnswerBy, spent, IsFound, IsFoundFor, HasSpentLeavesOf, graphs_of, issued_of_all, merged_of_all, searched_graph_of}
use Rattle.hpr_graph.specs.Fits.{IsPart}
use Rattle.hpr_graph.specs.Graphs.{Graph, Same}
use Rattle.hpr_graph.specs.Numbered.{Numbered, HasVertex, IsMarkedVertex, graph_in}
use Rattle.hpr_graph.specs.ProgramGraph.{graph_of}
use Rattle.hpr_graph.specs.Rank.{IsRankOf}
use Rattle.hpr_graph.specs.Split.{AreIssuedAmong, AreRenamed, AreRenamedWithin, AreSplitParts, HasTag, IsSplitOff, KeepsTag, PassSerials, max_serial, split_graph, split_issued, split_rank}
use Rattle.hpr_graph.proofs.Laws.{part_tag, same_turned}
use Rattle.hpr_closure.proofs.Decided.{vertex_decided}
use Rattle.hpr_split.specs.declared.tags.SplitTags.{SplitTags}
use Rattle.hpr_split.specs.Marks.{IsUnmarked}
use Rattle.hpr_split.proofs.Renamed.{new_tags_length}
use Rattle.hpr_order.specs.Arranging.{AreIssued}
use Rattle.hpr_rebuild.proofs.Sames.{found_same}
use Rattle.hpr_engine.specs.declared.search.Searched.{Searched}
use Rattle.hpr_engine.specs.Kept.{AreKeptBelow, AreKeptBy}
use Rattle.hpr_engine.specs.Searched.{IsSearchedOf, IsSplitFrom}
use Rattle.hpr_rename.proofs.MappedAlike as graphs
use Rattle.hpr_engine.proofs.SearchedFor.{in_variant, rank_itself}

-- the new tags of the same graph make the same graph
split_graph_same : (rs : List (Vertex × Tag)) (f g h : Graph) → Same f (split_graph rs g) → Same g h → Same f (split_graph rs h)
split_graph_same rs f g h is same = (
  λ v. (
    λ x. (let (w, there, e) = (is.0 v).0 x in (w, (same.0 w).0 there, e)),
    λ (w, there, e). (is.0 v).1 (w, (same.0 w).1 there, e),
  ),
  λ d. (
    λ x. (let (w, there, e) = (is.1 d).0 x in (w, (same.1 w).0 there, e)),
    λ (w, there, e). (is.1 d).1 (w, (same.1 w).1 there, e),
  ),
)

-- the parts that are split off a graph are those that are split off the same graph
has_tag_same : (g h : Graph) → Same g h → (t : Tag) (v : Vertex) → HasTag g t v ↔ HasTag h t v
has_tag_same g h same t v = (λ (c, is, has). (c, is, (same.0 v).0 has), λ (c, is, has). (c, is, (same.0 v).1 has))

keeps_tag_same : (g h : Graph) → Same g h → (hs : List Graph) (t : Tag) (v : Vertex) → KeepsTag hs g t v ↔ KeepsTag hs h t v
keeps_tag_same g h same [] t v = (λ x. x, λ x. x)
keeps_tag_same g h same (k ∷ ks) t v =
    let tags = has_tag_same g h same t in
    let rest = keeps_tag_same g h same ks t v in (
      λ x. elim x [
        | inl (tag, there) ↦ inl ((tags v).0 tag, there)
        | inr (none, later) ↦ inr (λ (w, tag, there). none (w, (tags w).1 tag, there), rest.0 later)
      ],
      λ x. elim x [
        | inl (tag, there) ↦ inl ((tags v).1 tag, there)
        | inr (none, later) ↦ inr (λ (w, tag, there). none (w, (tags w).0 tag, there), rest.1 later)
      ],
    )

split_off_same : (g h : Graph) → Same g h → (hs : List Graph) (v : Vertex) → IsSplitOff hs g v ↔ IsSplitOff hs h v
split_off_same g h same hs v = (
  λ (t, tag, (w, its, other), lacks).
      (t, (has_tag_same g h same t v).0 tag, (w, (has_tag_same g h same t w).0 its, other), λ k. lacks ((keeps_tag_same g h same hs t v).1 k)),
  λ (t, tag, (w, its, other), lacks).
      (t, (has_tag_same g h same t v).1 tag, (w, (has_tag_same g h same t w).1 its, other), λ k. lacks ((keeps_tag_same g h same hs t v).0 k)),
)

-- the same parts get new tags
module _ (g h : Graph) (P Q : Vertex → Type 0) (alike : (v : Vertex) → (g.vertex v × IsPart v × P v) ↔ (h.vertex v × IsPart v × Q v)) (z : ℕ) where
  parts_alike : (vs : List Vertex) → AreSplitParts g P vs → AreSplitParts h Q vs
  parts_alike vs (ascend, all) = (ascend, λ v. (λ there. (alike v).0 ((all v).0 there), λ is. (all v).1 ((alike v).1 is)))

  renamed_alike : (rs : List (Vertex × Tag)) → AreRenamedWithin g P z rs → AreRenamedWithin h Q z rs
  renamed_alike rs (inl ((vs, parts, is), fits)) = inl ((vs, parts_alike vs parts, is), fits)
  renamed_alike rs (inr ((vs, parts, past), none)) = inr ((vs, parts_alike vs parts, past), none)

-- where the serials don't pass the greatest
never_passed : (g : Graph) (P : Vertex → Type 0) (z : ℕ) (rs : List (Vertex × Tag)) → AreRenamed g P z rs → ¬ PassSerials g P z → z + length rs ≤ max_serial
never_passed g P z rs (vs, parts, is) never =
    let count : length rs ≡ length vs = ap (λ (qs : List (Vertex × Tag)). length qs) is ∙ new_tags_length z vs in
    elim (compared max_serial (z + length vs)) [
      | inl past ↦ absurd (never (vs, parts, past))
      | inr rest ↦ elim rest [ inl e ↦ omega (arith, e, count) | inr less ↦ omega (arith, less, count) ]
    ]

-- another part with a tag is found among vertices
is_tagged : (t : Tag) (v : Vertex) → ((c : Content) × (v ≡ Part t c)) ⊎ (¬ ((c : Content) × (v ≡ Part t c)))
is_tagged t Entry = inr (λ (c, is). absurd cc)
is_tagged t (Init x) = inr (λ (c, is). absurd cc)
is_tagged t (Part s d) = by (same_tag s t) refl
  where
    by : (b : Bool) → same_tag s t ≡ b → ((c : Content) × (Part s d ≡ Part t c)) ⊎ (¬ ((c : Content) × (Part s d ≡ Part t c)))
    by true is = inl (d, ap (λ (u : Tag). Part u d) (same_tag_is s t is))
    by false isnt = inr (λ (c, e). (let b : true ≡ false = sym (same_tag_itself s) ∙ ap (same_tag s) (part_tag s t d c e) ∙ isnt in absurd cc))
is_tagged t (Final x) = inr (λ (c, is). absurd cc)

abbrev OtherPart : List Vertex → Tag → Vertex → Type 0
OtherPart vs t v = (w : Vertex) × Contains vs w × ((c : Content) × (w ≡ Part t c)) × ¬ (w ≡ v)

abbrev OnlyPart : List Vertex → Tag → Vertex → Type 0
OnlyPart vs t v = (w : Vertex) → Contains vs w → ((c : Content) × (w ≡ Part t c)) → w ≡ v

other_part : (vs : List Vertex) (t : Tag) (v : Vertex) → OtherPart vs t v ⊎ OnlyPart vs t v
other_part [] t v = inr (λ w h tagged. absurd (in_none w h))
other_part (x ∷ vs) t v = elim (other_part vs t v) [
  | inl (w, there, tagged, other) ↦ inl (w, in_later x w vs there, tagged, other)
  | inr only ↦ elim (vertex_decided x v) [
    | inl same ↦ inr (λ w h tagged. elim (in_cons x w vs h) [ inl e ↦ sym e ∙ same | inr later ↦ only w later tagged ])
    | inr other ↦ elim (is_tagged t x) [
      | inl tagged ↦ inl (x, in_here x vs, tagged, other)
      | inr untagged ↦ inr (λ w h tagged. elim (in_cons x w vs h) [
        | inl e ↦ absurd (untagged (subst (λ (y : Vertex). (c : Content) × (y ≡ Part t c)) (sym e) tagged))
        | inr later ↦ only w later tagged
      ])
    ]
  ]
]

-- the only part with a tag keeps it, where it is one of some variant's
only_kept : (g : Numbered) (vs : List Tree) (t : Tag) (v : Vertex) → HasTag (graph_in g) t v → OnlyPart g.vertices t v → (p : Tree) → Contains vs p → (graph_of p).vertex v
    → ¬ (¬ KeepsTag (graphs_of vs) (graph_in g) t v)
only_kept g [] t v tag only p there has lacks = absurd (in_none p there)
only_kept g (q ∷ vs) t v tag only p there has lacks =
    let not_first : ¬ (graph_of q).vertex v = λ h. lacks (inl (tag, h)) in
    let none : ¬ ((w : Vertex) × HasTag (graph_in g) t w × (graph_of q).vertex w) =
    λ (w, (d, w_is, stands), h). not_first (subst (graph_of q).vertex (only w stands (d, w_is)) h) in
    elim (in_cons q p vs there) [
      | inl e ↦ not_first (subst (λ (r : Tree). (graph_of r).vertex v) (sym e) has)
      | inr later ↦ only_kept g vs t v tag only p later has (λ k. lacks (inr (none, k)))
    ]

-- the unmarked parts are split off, where each part is one of some variant's
module _ (g : Numbered) (vs : List Tree) (keep : List Bool) (kept : AreKeptBy (graphs_of vs) g keep)
    (of : (v : Vertex) → HasVertex g v → IsPart v → (p : Tree) × Contains vs p × (graph_of p).vertex v) where
  unmarked_off : (v : Vertex) → (HasVertex g v × IsPart v × IsUnmarked g keep v) ↔ (HasVertex g v × IsPart v × IsSplitOff (graphs_of vs) (graph_in g) v)
  unmarked_off v = (
    λ (has, (t, c, is), unmarked).
        (let lacks : ¬ KeepsTag (graphs_of vs) (graph_in g) t v = λ k. unmarked ((kept v t (c, is, has)).1 k) in (
          has,
          (t, c, is),
          elim (other_part g.vertices t v) [
            | inl (w, there, (d, w_is), other) ↦ (t, (c, is, has), (w, (d, w_is, there), other), lacks)
            | inr only ↦ (let (p, among, stands) = of v has (t, c, is) in absurd (only_kept g vs t v (c, is, has) only p among stands lacks))
          ],
        )),
    λ (has, part, (t, tag, others, lacks)). (has, part, λ m. lacks ((kept v t tag).0 m)),
  )

-- each vertex of the merged graph is one of some variant's
of_some_variant : (base : Tree) (vs : List Tree) → 1 ≤ length vs → (v : Vertex) → (merged_of_all base vs).vertex v → (p : Tree) × Contains vs p × (graph_of p).vertex v
of_some_variant base [] some v h = absurd (omega (arith, some))
of_some_variant base (a ∷ vs) some v h = in_variant base a vs v h

-- what is made of the merged graph is what is searched
pub searched_from : (base : Tree) (vs : List Tree) → 1 ≤ length vs → (keep : List Bool) (m s : Searched) → Same (graph_in m.graph) (merged_of_all base vs) → IsRankOf base vs m.rank.items → m.issued ≡ issued_of_all base vs
    → AreKeptBy (graphs_of vs) m.graph keep → IsSplitFrom m (IsUnmarked m.graph keep) s → IsSearchedOf base vs s
searched_from base vs some keep m s same ranked numbers kept (within, graph, rank, issued) =
    let rs : List (Vertex × Tag) = s.renamed.items in
    let hs : List Graph = graphs_of vs in
    let M : Graph = merged_of_all base vs in
    let alike : (v : Vertex) → (HasVertex m.graph v × IsPart v × IsUnmarked m.graph keep v) ↔ (M.vertex v × IsPart v × IsSplitOff hs M v) =
    λ v. (let off = unmarked_off m.graph vs keep kept (λ w has part. of_some_variant base vs some w ((same.0 w).0 has)) v in
    let split = split_off_same (graph_in m.graph) M same hs v in (
      λ x. (let y = off.0 x in ((same.0 v).0 y.0, y.1, split.0 y.2)),
      λ x. off.1 ((same.0 v).1 x.0, x.1, split.1 x.2),
    )) in
    let renamed_there : AreRenamedWithin M (IsSplitOff hs M) (issued_to 0 m.issued) rs = renamed_alike (graph_in m.graph) M (IsUnmarked m.graph keep) (IsSplitOff hs M) alike (issued_to 0 m.issued) rs within in (
      subst (λ (i : Issued). AreRenamedWithin M (IsSplitOff hs M) (issued_to 0 i) rs) numbers renamed_there,
      split_graph_same rs (graph_in s.graph) (graph_in m.graph) M graph same,
      (m.rank.items, ranked, rank),
      subst (λ (i : Issued). s.issued ≡ split_issued (length rs) i) numbers issued,
    )

-- what is found for what is searched, by the rank that the search was given, is found for the programs
pub found_for : (X : Type 0) (base : Tree) (vs : List Tree) (s : Searched) (rank : List Vertex) → rank ≡ s.rank.items → (tries : ℕ) (r : AnswerBy X) → IsSearchedOf base vs s
    → IsFound {X = X} (graph_in s.graph) rank s.issued tries r → IsFoundFor {X = X} base vs tries r
found_for X base vs s rank is tries r (off, same, ranked, numbers) found =
    let rs : List (Vertex × Tag) = s.renamed.items in
    let by_rank : IsFound {X = X} (graph_in s.graph) s.rank.items s.issued tries r = subst (λ (l : List Vertex). IsFound {X = X} (graph_in s.graph) l s.issued tries r) is found in (
      rs,
      off,
      (
        s.rank.items,
        ranked,
        subst (λ (i : Issued). IsFound {X = X} (searched_graph_of rs base vs) s.rank.items i tries r) numbers
            (found_same {X = X} (graph_in s.graph) (searched_graph_of rs base vs) same s.rank.items s.issued tries r by_rank),
      ),
    )

pub leaves_of : (X : Type 0) (base : Tree) (vs : List Tree) (tries : ℕ) → IsFoundFor {X = X} base vs tries spent → HasSpentLeavesOf base vs tries
leaves_of X base vs tries (rs, off, (rank, is, (ps, are, more, none, leaves))) = (rs, off, (rank, is, leaves))

-- issued numbers are serials
issued_within : (a : ℕ) (issued : Issued) → AllByRecursion IsProperPair issued → issued_to a issued ≤ max_serial
issued_within a [] all = omega arith
issued_within a (p ∷ ps) all = by (p.0 == a) (issued_within a ps all.1)
  where
    by : (b : Bool) → issued_to a ps ≤ max_serial → (if b then p.1 else issued_to a ps) ≤ max_serial
    by true rest = omega (arith, all.0.1)
    by false rest = rest

-- the marks one after the other
pub kept_below : (vs : List Vertex) (keep : List Bool) (n : ℕ) (x : Vertex) (b : Bool) → AreKeptBelow vs keep n → slice_get vs n ≡ Some x → b ≡ get_or keep n false → (IsPart x → b ≡ true) → AreKeptBelow vs keep (n + 1)
kept_below vs keep n x b so_far here mark is at v below there part = elim (compared at n) [
  | inl l ↦ so_far at v l there part
  | inr rest ↦ elim rest [
    | inl e ↦ (let same : v ≡ x = some_inj v x (sym there ∙ ap (slice_get vs) e ∙ here) in
        let marked : get_or keep n false ≡ true = sym mark ∙ is (subst IsPart same part) in
        ap (λ (k : ℕ). get_or keep k false) e ∙ marked)
    | inr more ↦ absurd (omega (arith, below, more))
  ]
]

-- what the code makes
some_then : (o : Option SplitTags) (s : SplitTags) → o ≡ Some s → (P : SplitTags → Type 0) → IfSome o P → P s
some_then o s is P h = subst (λ (p : Option SplitTags). IfSome p P) is h

module _ (m : Searched) (keep : List Bool) where
  abbrev IsOff : Vertex → Type 0
  IsOff = IsUnmarked m.graph keep

  abbrev last : ℕ
  last = issued_to 0 m.issued

  as_it_was : Same (graph_in m.graph) (split_graph [] (graph_in m.graph))
  as_it_was = same_turned (split_graph [] (graph_in m.graph)) (graph_in m.graph) (graphs.split_none (graph_in m.graph))

  -- what is said of a list is said of the one that is equal
  listed : (rs : List (Vertex × Tag)) → m.renamed.items ≡ rs
      → AreRenamedWithin (graph_in m.graph) IsOff last rs × Same (graph_in m.graph) (split_graph rs (graph_in m.graph)) × (m.rank.items ≡ split_rank rs m.rank.items)
      × (m.issued ≡ split_issued (length rs) m.issued)
      → IsSplitFrom m IsOff m
  listed rs is h =
      subst (λ (qs : List (Vertex × Tag)). AreRenamedWithin (graph_in m.graph) IsOff last qs × Same (graph_in m.graph) (split_graph qs (graph_in m.graph))
      × (m.rank.items ≡ split_rank qs m.rank.items) × (m.issued ≡ split_issued (length qs) m.issued)) (sym is) h

  pub split_none : m.renamed.items ≡ [] → PassSerials (graph_in m.graph) IsOff last → IsSplitFrom m IsOff m
  split_none empty past = listed [] empty (inr (past, refl), as_it_was, sym (rank_itself m.rank.items), refl)

  -- where each part is marked
  pub split_nothing : m.renamed.items ≡ [] → All IsProperPair m.issued → (vs : List Vertex) → vs ≡ m.graph.vertices → AreKeptBelow vs keep (length vs) → IsSplitFrom m IsOff m
  split_nothing empty pairs vs same all =
      let marked : (v : Vertex) → HasVertex m.graph v → IsPart v → IsMarkedVertex m.graph keep v =
      λ v has part. (let (at, there) = place_of m.graph.vertices v has in
      let here : slice_get vs at ≡ Some v = ap (λ (us : List Vertex). slice_get us at) same ∙ there in
      (at, there, all at v (slice_get_within vs at v here) here part)) in
      let none : AreSplitParts (graph_in m.graph) IsOff [] = (
        λ i j x y less at_i at_j. absurd (in_none x (contains_at [] i x at_i)),
        λ v. (λ h. absurd (in_none v h), λ (has, part, clear). absurd (clear (marked v has part))),
      ) in
      listed [] empty
      (inl (([], none, refl), omega (arith, issued_within 0 m.issued (recursion_from_All IsProperPair m.issued pairs))), as_it_was, sym (rank_itself m.rank.items), refl)

  pub split_some : (r : List Vertex) → r ≡ m.rank.items → (o : Option SplitTags) (s : SplitTags) → o ≡ Some s → IfSome o (λ x. AreRenamed (graph_in m.graph) IsOff last x.renamed.items)
      → IfSome o (λ x. Same (graph_in x.graph) (split_graph x.renamed.items (graph_in m.graph))) → IfSome o (λ x. x.rank.items ≡ split_rank x.renamed.items r)
      → IfSome o (λ x. x.issued ≡ split_issued (length x.renamed.items) m.issued) → IsNone o ↔ PassSerials (graph_in m.graph) IsOff last
      → IsSplitFrom m IsOff (record { graph = s.graph; rank = s.rank; issued = s.issued; renamed = s.renamed })
  split_some r r_is o s is tagged graph rank issued none =
      let are = some_then o s is (λ x. AreRenamed (graph_in m.graph) IsOff last x.renamed.items) tagged in
      let rank_then = some_then o s is (λ x. x.rank.items ≡ split_rank x.renamed.items r) rank in
      let never : ¬ PassSerials (graph_in m.graph) IsOff last = λ past. (let both : true ≡ false = sym (ap is_some is) ∙ none.1 past in absurd cc) in (
        inl (are, never_passed (graph_in m.graph) IsOff last s.renamed.items are never),
        some_then o s is (λ x. Same (graph_in x.graph) (split_graph x.renamed.items (graph_in m.graph))) graph,
        rank_then ∙ ap (split_rank s.renamed.items) r_is,
        some_then o s is (λ x. x.issued ≡ split_issued (length x.renamed.items) m.issued) issued,
      )

pub some_issued : (o : Option SplitTags) (s : SplitTags) → o ≡ Some s → IfSome o (λ x. (t : Tag) (c : Content) → HasVertex x.graph (Part t c) → Contains x.rank.items (Part t c))
    → IfSome o (λ x. AreIssuedAmong (Contains x.rank.items) x.issued) → AreIssued (graph_in s.graph) s.issued
some_issued o s is ranked serials t c has =
    some_then o s is (λ x. AreIssuedAmong (Contains x.rank.items) x.issued) serials t c
    (some_then o s is (λ x. (u : Tag) (d : Content) → HasVertex x.graph (Part u d) → Contains x.rank.items (Part u d)) ranked t c has)
