-- Two programs with one slice: what their runs share, as the record of TwoRuns.
use Rattle.hpr_meaning.specs.Any.Meaning.{Meaning, HasLaws}
use Rattle.std.proofs.Common.{◌≡◌, ℕ, Bool, true, false, List, [], ◌⊎◌, Some, None, length, refl, ap, sym, subst, ◌∙◌, inl, inr}
use Rattle.hpr_terms.specs.declared.tag.Tag.{Tag}
use Rattle.hpr_syntax.specs.declared.rows.Content.{Content}
use Rattle.hpr_syntax.specs.Tree.{Tree}
use Rattle.hpr_syntax.specs.Skeleton.{Distinct, skeleton}
use Rattle.hpr_syntax.specs.Nests.{Standing, StandsAsIn, Says}
use Rattle.hpr_paths.specs.Times.{IsBefore, HaveLessTurns, HaveSameTurns}
use Rattle.hpr_meaning.specs.Due.{first_turns, IsLoop}
use Rattle.hpr_graph.specs.declared.vertex.Vertex.{Vertex}
use Rattle.hpr_graph.specs.declared.vertex.Vertex.TheVariants.{Entry, Part}
use Rattle.hpr_graph.specs.declared.edge.Kind.TheVariants.{Control, Independent, Carried, Order}
use Rattle.hpr_graph.specs.declared.edge.Edge.{Edge}
use Rattle.hpr_graph.specs.Graphs.{Same}
use Rattle.hpr_graph.specs.Slices.{Leads, ReachesOne, slice_of}
use Rattle.hpr_graph.specs.ProgramGraph.{IsIndependent, HasFlow, IsOrder, graph_of, IsControl}
use Rattle.hpr_meaning.specs.OrderLaw.{common_loops}
use Rattle.hpr_paths.proofs.Says.{says_one, says_of_standing, standing_of_says}
use Rattle.hpr_meaning.proofs.Chains.{own_nest, Chain, top, below, chain_of, one_chain, chain_first}
use Rattle.hpr_meaning.proofs.FlowWays.{flow_source}
use Rattle.hpr_meaning.proofs.Ordered.{flow_order, use_order}
use Rattle.hpr_meaning.proofs.Items.{Spot}
use Rattle.hpr_meaning.proofs.RunRecords.{language, vertex_at, IsTopSpot, CallsFor, HasAllTurns, run_record, known}
use Rattle.hpr_meaning.proofs.TwoRuns.{Shares}
use Rattle.hpr_closure.proofs.WholeSlices.{edge_inside}
use Rattle.hpr_closure.proofs.ProgramLoops.{program_loops}
use Rattle.hpr_graph.proofs.Laws.{same_turned}

no_part : {A : Type 0} {t : Tag} {c : Content} → Part t c ≡ Entry → A
no_part e = absurd cc

no_entry : {A : Type 0} {t : Tag} {c : Content} → Entry ≡ Part t c → A
no_entry e = absurd cc

part_tag : {t u : Tag} {c d : Content} → Part t c ≡ Part u d → t ≡ u
part_tag e = cc

part_content : {t u : Tag} {c d : Content} → Part t c ≡ Part u d → c ≡ d
part_content e = cc

-- a control edge into a part, by how the part stands
abbrev pub ControlsPart : Tree → Bool → Vertex → Tag → Content → Type 0
ControlsPart p b from t c =
    (r : Standing) × StandsAsIn p.body t r × (r.content ≡ c)
    × (((from ≡ Entry) × (b ≡ true) × (r.parent ≡ None)) ⊎ ((w : Tag) × (d : Content) × (from ≡ Part w d) × Says p.body w d × (r.parent ≡ Some (w, b))))

pub to_control : (p : Tree) (b : Bool) (from : Vertex) (t : Tag) (c : Content) → ControlsPart p b from t c → IsControl p b from (Part t c)
to_control p b from t c (r, h, e, inl (f, l, a)) = inl (f, l, (r, h, e, a))
to_control p b from t c (r, h, e, inr (w, d, f, s, a)) = inr (w, d, f, s, (t, r, h, ap (λ z. Part t z) (sym e), a))

pub from_control : (p : Tree) (b : Bool) (from : Vertex) (t : Tag) (c : Content) → IsControl p b from (Part t c) → ControlsPart p b from t c
from_control p b from t c (inl (f, l, (r, h, e, a))) = (r, h, e, inl (f, l, a))
from_control p b from t c (inr (w, d, f, s, (u, r, h, is, a))) =
    (r, subst (λ z. StandsAsIn p.body z r) (sym (part_tag is)) h, sym (part_content is), inr (w, d, f, s, a))

-- from q to p, where the slice of q by S is the slice of p
module _ (p q : Tree) (dp : Distinct (skeleton p.body)) (dq : Distinct (skeleton q.body)) (S : Vertex → Type 0)
    (same : Same (slice_of (graph_of q) S) (slice_of (graph_of p) S)) where
  abbrev pub InQ : Vertex → Type 0
  InQ v = ReachesOne (graph_of q) S v

  abbrev pub InP : Vertex → Type 0
  InP v = ReachesOne (graph_of p) S v

  pub vertex_to : (v : Vertex) → (graph_of q).vertex v → InQ v → (graph_of p).vertex v × InP v
  vertex_to v g i = (same.0 v).0 (g, i)

  -- an edge into the slice
  pub edge_to : (e : Edge) → (graph_of q).edge e → Leads e.kind → InQ e.to → (graph_of p).edge e × InQ e.from
  edge_to e h k i = let inside = edge_inside (graph_of q) (program_loops q (says_one q.body dq)) S e h k i in (((same.1 e).0 (h, inside)).0, inside.1)

  pub control_to : (b : Bool) (from : Vertex) (t : Tag) (c : Content) → ControlsPart q b from t c → InQ (Part t c) → ControlsPart p b from t c × InQ from
  control_to b from t c h i =
      let g = edge_to (record { to = Part t c; from = from; kind = Control b }) (to_control q b from t c h) tt i in (from_control p b from t c g.0, g.1)

  pub independent_to : (x : List ℕ) (from to : Vertex) → IsIndependent q x from to → InQ to → IsIndependent p x from to
  independent_to x from to h i = (edge_to (record { to = to; from = from; kind = Independent x }) h tt i).0

  pub flow_to : (x : List ℕ) (from to : Vertex) → HasFlow q x from to → InQ to → HasFlow p x from to × InQ from
  flow_to x from to (inl h) i = let g = edge_to (record { to = to; from = from; kind = Independent x }) h tt i in (inl g.0, g.1)
  flow_to x from to (inr (w, h)) i = let g = edge_to (record { to = to; from = from; kind = Carried x w }) h tt i in (inr (w, g.0), g.1)

  pub order_to : (x : List ℕ) (u from to : Vertex) → IsOrder q u from to → HasFlow q x from u → HasFlow q x to u → InQ u → IsOrder p u from to
  order_to x u from to h k l i = ((same.1 (record { to = to; from = from; kind = Order u })).0 (h, ((flow_to x to u l i).1, (flow_to x from u k i).1, i))).0

  -- the chain of control edges, and so the nest
  chain_to : (t : Tag) (n : List Tag) → Chain q.body t n → (c : Content) → Says q.body t c → InQ (Part t c) → Chain p.body t n
  chain_to t _ (top r h a) c s i = go g.0
    where
      e : r.content ≡ c
      e = says_one q.body dq t r.content c (says_of_standing q.body [] None t r h) s

      g : ControlsPart p true Entry t c × InQ Entry
      g = control_to true Entry t c (r, h, e, inl (refl, refl, a)) i

      go : ControlsPart p true Entry t c → Chain p.body t (own_nest r.content t [])
      go (r', h', e', inl k) = subst (λ z. Chain p.body t (own_nest z t [])) (e' ∙ sym e) (top r' h' k.2)
      go (r', h', e', inr (w, d, k, y, z)) = no_entry k
  chain_to t _ (below {nest = n} r w b h a ch) c s i = go g.0 (chain_to w n ch hd.0.content sw g.1)
    where
      hd : (z : Standing) × StandsAsIn q.body w z
      hd = chain_first q.body w n ch

      sw : Says q.body w hd.0.content
      sw = says_of_standing q.body [] None w hd.0 hd.1

      e : r.content ≡ c
      e = says_one q.body dq t r.content c (says_of_standing q.body [] None t r h) s

      g : ControlsPart p b (Part w hd.0.content) t c × InQ (Part w hd.0.content)
      g = control_to b (Part w hd.0.content) t c (r, h, e, inr (w, hd.0.content, refl, sw, a)) i

      go : ControlsPart p b (Part w hd.0.content) t c → Chain p.body w n → Chain p.body t (own_nest r.content t n)
      go (r', h', e', inl k) ch' = no_part k.0
      go (r', h', e', inr (v, d, k, y, z)) ch' =
          let o = subst (λ z. r'.parent ≡ Some (z, b)) (sym (part_tag k)) z in
          subst (λ z. Chain p.body t (own_nest z t n)) (e' ∙ sym e) (below r' w b h' o ch')

  pub nest_to : (t : Tag) (c : Content) (a b : Standing) → Says q.body t c → InQ (Part t c) → StandsAsIn q.body t a → StandsAsIn p.body t b → a.nest ≡ b.nest
  nest_to t c a b s i ra rb = one_chain p.body dp t a.nest b.nest (chain_to t a.nest (chain_of q.body t a ra) c s i) (chain_of p.body t b rb)

  says_to : (t : Tag) (c : Content) → Says q.body t c → InQ (Part t c) → Says p.body t c
  says_to t c s i = (vertex_to (Part t c) s i).0

  pub placed_to : (a : Spot) → Says q.body a.0.0 a.1 → InQ (vertex_at a) → HasAllTurns q.body a.0 → HasAllTurns p.body a.0
  placed_to a s i (r, h, l) =
      let g = standing_of_says p.body [] None a.0.0 a.1 (says_to a.0.0 a.1 s i) in (g.0, g.1, l ∙ ap length (nest_to a.0.0 a.1 r g.0 s i h g.1))

  pub top_to : (a : Spot) → InQ (vertex_at a) → IsTopSpot q.body a → IsTopSpot p.body a
  top_to a i (r, h, e, o, l) = go (control_to true Entry a.0.0 a.1 (r, h, e, inl (refl, refl, o)) i).0
    where
      go : ControlsPart p true Entry a.0.0 a.1 → IsTopSpot p.body a
      go (r', h', e', inl k) = (r', h', e', k.2, l ∙ ap (λ c. first_turns c []) (e ∙ sym e'))
      go (r', h', e', inr (w, d, k, y, z)) = no_entry k

  pub call_to : (a b : Spot) (t : Bool) → InQ (vertex_at a) → CallsFor q.body a b t → InQ (vertex_at b) × CallsFor p.body a b t
  call_to a b t i (r, h, e, inl c, s, l) = go k.0
    where
      k : ControlsPart p t (vertex_at b) a.0.0 a.1 × InQ (vertex_at b)
      k = control_to t (vertex_at b) a.0.0 a.1 (r, h, e, inr (b.0.0, b.1, refl, s, c.0)) i

      go : ControlsPart p t (Part b.0.0 b.1) a.0.0 a.1 → InQ (vertex_at b) × CallsFor p.body a b t
      go (r', h', e', inl y) = no_part y.0
      go (r', h', e', inr (w, d, y, y', z')) = (
        k.1,
        (
          r',
          h',
          e',
          inl (subst (λ z. r'.parent ≡ Some (z, t)) (sym (part_tag y)) z', c.1 ∙ ap (λ z. first_turns z b.0.1) (e ∙ sym e')),
          says_to b.0.0 b.1 s k.1,
          placed_to b s k.1 l,
        ),
      )
  call_to a b t i (r, h, e, inr c, s, l) =
      let sa : Says q.body a.0.0 a.1 = subst (λ z. Says q.body a.0.0 z) e (says_of_standing q.body [] None a.0.0 r h) in
      let m : b.1 ≡ a.1 = says_one q.body dq a.0.0 b.1 a.1 (subst (λ z. Says q.body z b.1) c.1 s) sa in
      let n : vertex_at b ≡ vertex_at a = λ j. Part (c.1 j) (m j) in
      let ib = subst InQ (sym n) i in
      let g = standing_of_says p.body [] None a.0.0 a.1 (says_to a.0.0 a.1 sa i) in
      (ib, (g.0, g.1, g.2, inr (subst (λ z. IsLoop z) (e ∙ sym g.2) c.0, c.1, c.2, c.3), says_to b.0.0 b.1 s ib, placed_to b s ib l))

  -- the order of two places of the slice
  pub before_to : (x : List ℕ) (a b : Spot) → Says q.body b.0.0 b.1 → InQ (vertex_at b) → HasFlow q x (vertex_at a) (vertex_at b) → IsBefore q.body a.0 b.0 → IsBefore p.body a.0 b.0
  before_to x a b sb i k h =
      (flow_order p dp a.0 b.0 ap'.0 bp.0 ap'.1 bp.1 x a.1 b.1 fp.0).1 (go ((flow_order q dq a.0 b.0 aq.0 bq.0 aq.1 bq.1 x a.1 b.1 k).0 h))
    where
      fp : HasFlow p x (vertex_at a) (vertex_at b) × InQ (vertex_at a)
      fp = flow_to x (vertex_at a) (vertex_at b) k i

      sa : Says q.body a.0.0 a.1
      sa = (flow_source q x a.0.0 a.1 (vertex_at b) k).1

      aq : (r : Standing) × StandsAsIn q.body a.0.0 r × (r.content ≡ a.1)
      aq = standing_of_says q.body [] None a.0.0 a.1 sa

      bq : (r : Standing) × StandsAsIn q.body b.0.0 r × (r.content ≡ b.1)
      bq = standing_of_says q.body [] None b.0.0 b.1 sb

      ap' : (r : Standing) × StandsAsIn p.body a.0.0 r × (r.content ≡ a.1)
      ap' = standing_of_says p.body [] None a.0.0 a.1 (says_to a.0.0 a.1 sa fp.1)

      bp : (r : Standing) × StandsAsIn p.body b.0.0 r × (r.content ≡ b.1)
      bp = standing_of_says p.body [] None b.0.0 b.1 (says_to b.0.0 b.1 sb i)

      n : common_loops aq.0.nest bq.0.nest ≡ common_loops ap'.0.nest bp.0.nest
      n = ap (λ z. common_loops z bq.0.nest) (nest_to a.0.0 a.1 aq.0 ap'.0 sa fp.1 aq.1 ap'.1) ∙ ap (λ z. common_loops ap'.0.nest z) (nest_to b.0.0 b.1 bq.0 bp.0 sb i bq.1 bp.1)

      go : HaveLessTurns (common_loops aq.0.nest bq.0.nest) 0 a.0.1 b.0.1 ⊎ (HaveSameTurns (common_loops aq.0.nest bq.0.nest) 0 a.0.1 b.0.1 × IsIndependent q x (vertex_at a) (vertex_at b))
          → HaveLessTurns (common_loops ap'.0.nest bp.0.nest) 0 a.0.1 b.0.1 ⊎ (HaveSameTurns (common_loops ap'.0.nest bp.0.nest) 0 a.0.1 b.0.1 × IsIndependent p x (vertex_at a) (vertex_at b))
      go (inl l) = inl (subst (λ c. HaveLessTurns c 0 a.0.1 b.0.1) n l)
      go (inr l) = inr (subst (λ c. HaveSameTurns c 0 a.0.1 b.0.1) n l.0, independent_to x (vertex_at a) (vertex_at b) l.1 i)

  pub use_before_to : (x : List ℕ) (u : Vertex) (a b : Spot) → InQ u → HasFlow q x (vertex_at a) u → HasFlow q x (vertex_at b) u → IsBefore q.body a.0 b.0 → IsBefore p.body a.0 b.0
  use_before_to x u a b i k l h =
      (use_order p dp a.0 b.0 ap'.0 bp.0 ap'.1 bp.1 x u a.1 b.1 fa.0 fb.0).1 (go ((use_order q dq a.0 b.0 aq.0 bq.0 aq.1 bq.1 x u a.1 b.1 k l).0 h))
    where
      fa : HasFlow p x (vertex_at a) u × InQ (vertex_at a)
      fa = flow_to x (vertex_at a) u k i

      fb : HasFlow p x (vertex_at b) u × InQ (vertex_at b)
      fb = flow_to x (vertex_at b) u l i

      sa : Says q.body a.0.0 a.1
      sa = (flow_source q x a.0.0 a.1 u k).1

      sb : Says q.body b.0.0 b.1
      sb = (flow_source q x b.0.0 b.1 u l).1

      aq : (r : Standing) × StandsAsIn q.body a.0.0 r × (r.content ≡ a.1)
      aq = standing_of_says q.body [] None a.0.0 a.1 sa

      bq : (r : Standing) × StandsAsIn q.body b.0.0 r × (r.content ≡ b.1)
      bq = standing_of_says q.body [] None b.0.0 b.1 sb

      ap' : (r : Standing) × StandsAsIn p.body a.0.0 r × (r.content ≡ a.1)
      ap' = standing_of_says p.body [] None a.0.0 a.1 (says_to a.0.0 a.1 sa fa.1)

      bp : (r : Standing) × StandsAsIn p.body b.0.0 r × (r.content ≡ b.1)
      bp = standing_of_says p.body [] None b.0.0 b.1 (says_to b.0.0 b.1 sb fb.1)

      n : common_loops aq.0.nest bq.0.nest ≡ common_loops ap'.0.nest bp.0.nest
      n = ap (λ z. common_loops z bq.0.nest) (nest_to a.0.0 a.1 aq.0 ap'.0 sa fa.1 aq.1 ap'.1) ∙ ap (λ z. common_loops ap'.0.nest z) (nest_to b.0.0 b.1 bq.0 bp.0 sb fb.1 bq.1 bp.1)

      go : HaveLessTurns (common_loops aq.0.nest bq.0.nest) 0 a.0.1 b.0.1 ⊎ (HaveSameTurns (common_loops aq.0.nest bq.0.nest) 0 a.0.1 b.0.1 × IsOrder q u (vertex_at a) (vertex_at b))
          → HaveLessTurns (common_loops ap'.0.nest bp.0.nest) 0 a.0.1 b.0.1 ⊎ (HaveSameTurns (common_loops ap'.0.nest bp.0.nest) 0 a.0.1 b.0.1 × IsOrder p u (vertex_at a) (vertex_at b))
      go (inl e) = inl (subst (λ c. HaveLessTurns c 0 a.0.1 b.0.1) n e)
      go (inr e) = inr (subst (λ c. HaveSameTurns c 0 a.0.1 b.0.1) n e.0, order_to x u (vertex_at a) (vertex_at b) e.1 k l i)

-- the record, for the parts of the slice
abbrev pub InBoth : Tree → Tree → (Vertex → Type 0) → Spot → Type 0
InBoth p q S a = (Says p.body a.0.0 a.1 × ReachesOne (graph_of p) S (vertex_at a)) × (Says q.body a.0.0 a.1 × ReachesOne (graph_of q) S (vertex_at a))

module _ (M : Meaning) (LW : HasLaws M) where
  module _ (p q : Tree) (s : M.State) (n m : ℕ) (dp : Distinct (skeleton p.body)) (dq : Distinct (skeleton q.body)) (S : Vertex → Type 0)
      (same : Same (slice_of (graph_of p) S) (slice_of (graph_of q) S)) where
    turned_back : Same (slice_of (graph_of q) S) (slice_of (graph_of p) S)
    turned_back = same_turned (slice_of (graph_of p) S) (slice_of (graph_of q) S) same

    pub both_of_first : (a : Spot) → Says p.body a.0.0 a.1 → ReachesOne (graph_of p) S (vertex_at a) → InBoth p q S a
    both_of_first a h i = ((h, i), (same.0 (vertex_at a)).0 (h, i))

    pub both_of_second : (a : Spot) → Says q.body a.0.0 a.1 → ReachesOne (graph_of q) S (vertex_at a) → InBoth p q S a
    both_of_second a h i = ((same.0 (vertex_at a)).1 (h, i), (h, i))

    pub shares : ¬ ((known M LW p s n dp).over ≡ false) → Shares (language M LW s) (run_record M LW p s n dp) (run_record M LW q s m dq) (InBoth p q S)
    shares ends = record {
      first_ends = ends;
      top = λ a i t. top_to p q dp dq S turned_back a i.1.1 t;
      top' = λ a i t. top_to q p dq dp S same a i.0.1 t;
      called = λ a b t i c. let g = call_to p q dp dq S turned_back a b t i.1.1 c in (both_of_second b c.4 g.0, g.1);
      called' = λ a b t i c. let g = call_to q p dq dp S same a b t i.0.1 c in (both_of_first b c.4 g.0, g.1);
      flow = λ x a b i h. let g = flow_to p q dp dq S turned_back x (vertex_at a) (vertex_at b) h i.1.1 in (both_of_second a (flow_source q x a.0.0 a.1 (vertex_at b) h).1 g.1, g.0);
      flow' = λ x a b i h. let g = flow_to q p dq dp S same x (vertex_at a) (vertex_at b) h i.0.1 in (both_of_first a (flow_source p x a.0.0 a.1 (vertex_at b) h).1 g.1, g.0);
      flow_order = λ x a b i h. before_to p q dp dq S turned_back x a b i.1.0 i.1.1 h;
      flow_order' = λ x a b i h. before_to q p dq dp S same x a b i.0.0 i.0.1 h;
      use_order = λ x a c b i h k. use_before_to q p dq dp S same x (vertex_at b) a c i.0.1 h k;
    }
