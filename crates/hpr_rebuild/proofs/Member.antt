-- Every program with the graph is an arrangement, its finals put in order and its issued numbers replaced.
use Rattle.std.proofs.Common.{◌≡◌, ◌≤◌, ◌<◌, ◌↔◌, ℕ, Bool, true, inl, inr, All, None, List, [], refl, sym, subst, arith}
use Rattle.std.proofs.lemmas.List.Sorted.{All-permutation}
use Rattle.hpr_terms.specs.declared.limits.TheConstants.{MAX_LEVELS}
use Rattle.hpr_terms.specs.declared.tag.Tag.{Tag}
use Rattle.hpr_terms.specs.Names.{IsVariable}
use Rattle.hpr_syntax.specs.declared.rows.Content.{Content}
use Rattle.hpr_syntax.specs.Body.{Body, part_count}
use Rattle.hpr_syntax.specs.Issued.{Issued, IsIssued, issued_to}
use Rattle.hpr_syntax.specs.Nests.{Says}
use Rattle.hpr_syntax.specs.Parts.{tags_of}
use Rattle.hpr_syntax.specs.Places.{StandsLeft}
use Rattle.hpr_syntax.specs.Proper.{IsProperPair, IsProperIssued, IsProperBody}
use Rattle.hpr_syntax.specs.Shape.{IsProgram, first_repeated_tag, first_unissued, first_deep, says_large, is_wrong, first_where, too_many}
use Rattle.hpr_syntax.specs.Skeleton.{skeleton, at}
use Rattle.hpr_syntax.specs.Tree.{Tree}
use Rattle.hpr_syntax.proofs.NoRefusal.{no_refusal, shaped}
use Rattle.hpr_syntax.proofs.IssuedLemmas.{bounds_issued}
use Rattle.hpr_paths.specs.Spots.{part}
use Rattle.hpr_paths.proofs.Left.{number_left}
use Rattle.hpr_paths.proofs.Nested.{number_of_says}
use Rattle.hpr_graph.specs.declared.vertex.Vertex.{Vertex}
use Rattle.hpr_graph.specs.declared.vertex.Vertex.TheVariants.{Entry, Init, Part, Final}
use Rattle.hpr_graph.specs.declared.edge.Kind.{Kind}
use Rattle.hpr_graph.specs.declared.edge.Kind.TheVariants.{Control, Independent, Carried, Order}
use Rattle.hpr_graph.specs.Graphs.{Graph}
use Rattle.hpr_graph.specs.ProgramGraph.{IsControl, IsEdgeBy, IsVertexOf, graph_of}
use Rattle.hpr_graph.specs.Arrangements.{Directs, IsOuter, edge_into, IsArrangement, AreArrangements}
use Rattle.hpr_graph.specs.Answer.{Fits, NoneFits, HasNoProgram}
use Rattle.hpr_graph.proofs.Laws.{same_then}
use Rattle.hpr_build.proofs.BridgeVertices.{finals_once}
use Rattle.hpr_build.proofs.BridgeLeft.{independent_to_right, order_to_right}
use Rattle.hpr_order.specs.Arranging.{AreIssued}
use Rattle.hpr_rebuild.specs.Settled.{IsSettled}
use Rattle.hpr_rebuild.proofs.Names.{in_order, ascending_once, unrepeated}
use Rattle.hpr_rebuild.proofs.Parts.{issued_all}
use Rattle.hpr_rebuild.proofs.Alike.{settled_same}

-- each program can be settled
pub settled : (issued : Issued) (p : Tree) → IsProgram p → (q : Tree) × IsSettled issued p q
settled issued p prog =
    let (ys, moved, up) = in_order p.finals (finals_once p prog) in
    (record { issued = issued; body = p.body; finals = ys }, record { body = refl; numbers = refl; names = moved; ascending = up })

-- where each part's tag was issued, the settled program is a program
pub settled_program : (issued : Issued) (p q : Tree) → IsProgram p → IsProperIssued issued
    → ((t : Tag) (c : Content) → Says p.body t c → (1 ≤ t.serial) × (t.serial ≤ issued_to t.author issued)) → IsSettled issued p q → IsProgram q
settled_program issued p q prog (ascending, ranges) allowed s =
    let n = no_refusal p prog.shape in
    let issued_in : first_unissued issued (tags_of p.body []) ≡ None =
    issued_all issued p.body [] (λ t c h. bounds_issued issued t (allowed t c h).0 (allowed t c h).1) refl in
    record {
      proper = record {
        ascending = subst IsIssued (sym s.numbers) ascending;
        numbers = subst (λ (i : Issued). All IsProperPair i) (sym s.numbers) ranges;
        body = subst IsProperBody s.body prog.proper.body;
        finals = All-permutation IsVariable p.finals q.finals s.names prog.proper.finals;
      };
      shape = shaped q (record {
        tags = subst (λ (b : Body). first_repeated_tag b ≡ None) s.body n.tags;
        issued = subst (λ (i : Issued). first_unissued i (tags_of q.body []) ≡ None) (sym s.numbers)
            (subst (λ (b : Body). first_unissued issued (tags_of b []) ≡ None) s.body issued_in);
        levels = subst (λ (b : Body). first_deep MAX_LEVELS b ≡ None) s.body n.levels;
        expressions = subst (λ (b : Body). first_where says_large b ≡ None) s.body n.expressions;
        variables = subst (λ (b : Body). first_where is_wrong b ≡ None) s.body n.variables;
        parts = subst (λ (b : Body). too_many (part_count b) ≡ None) s.body n.parts;
        names = unrepeated q.finals (ascending_once q.finals s.ascending);
      });
    }

-- of two parts one alone stands to the left
one_left : (t : Tree) (v w : Tag) (c d : Content) → IsProgram t → Says t.body v c → Says t.body w d → StandsLeft (skeleton t.body) (at v) (at w)
    → ¬ StandsLeft (skeleton t.body) (at w) (at v)
one_left t v w c d prog says says' h k =
    let (p, role) = number_of_says t v c says in
    let (q, role') = number_of_says t w d says' in
    let less : p < q = number_left t p q (at v) (at w) prog (part v c, role, refl) (part w d, role', refl) h in
    let more : q < p = number_left t q p (at w) (at v) prog (part w d, role', refl) (part v c, role, refl) k in
    omega (arith, less, more)

-- the ends of an edge that directs are parts of the program
directed_ends : (t : Tree) (s v : Tag) (c d : Content) (k : Kind) → IsEdgeBy t k (Part s c) (Part v d) → Directs k → Says t.body s c × Says t.body v d
directed_ends t s v c d (Control label) h directs = absurd directs
directed_ends t s v c d (Independent x) (a, z, marks, ((is, says, e), (uses, says', f), path), avoids) directs = (says, says')
directed_ends t s v c d (Carried x w) h directs = absurd directs
directed_ends t s v c d (Order u) (x, a, b, (is, says, e), (is', says', f), flow, flow', left, whole) directs = (says, says')

directed_left : (t : Tree) (s v : Tag) (c d : Content) (k : Kind) → IsProgram t → IsEdgeBy t k (Part s c) (Part v d) → Directs k
    → StandsLeft (skeleton t.body) (at s) (at v)
directed_left t s v c d (Control label) prog h directs = absurd directs
directed_left t s v c d (Independent x) prog h directs = independent_to_right t s v c d prog (edge_into (Part s c) (Part v d) (Independent x)) x h refl refl refl
directed_left t s v c d (Carried x w) prog h directs = absurd directs
directed_left t s v c d (Order u) prog h directs = order_to_right t s v c d (edge_into (Part s c) (Part v d) (Order u)) u h refl refl refl

-- exactly the control edge from Entry goes into what is no part
init_control : (t : Tree) (x : List ℕ) (from : Vertex) (label : Bool) → IsControl t label from (Init x) → (from ≡ Entry) × (label ≡ true)
init_control t x from label (inl (is, truth, top)) = (is, truth)
init_control t x from label (inr (p, c, is, says, (v, s, stands, under, up))) = absurd cc

final_control : (t : Tree) (x : List ℕ) (from : Vertex) (label : Bool) → IsControl t label from (Final x) → (from ≡ Entry) × (label ≡ true)
final_control t x from label (inl (is, truth, top)) = (is, truth)
final_control t x from label (inr (p, c, is, says, (v, s, stands, under, up))) = absurd cc

outer_controls : (t : Tree) (v from : Vertex) (label : Bool) → IsOuter v → IsVertexOf t v → IsControl t label from v ↔ ((from ≡ Entry) × (label ≡ true))
outer_controls t Entry from label out there = absurd out
outer_controls t (Init x) from label out there = (init_control t x from label, λ (is, truth). inl (is, truth, there))
outer_controls t (Part v c) from label out there = absurd out
outer_controls t (Final x) from label out there = (final_control t x from label, λ (is, truth). inl (is, truth, there))

pub settled_fits : (g : Graph) (issued : Issued) (p q : Tree) → Fits g p → IsSettled issued p q → Fits g q
settled_fits g issued p q fits s = same_then (graph_of q) (graph_of p) g (settled_same issued p q s) fits

pub member : (g : Graph) (issued : Issued) (p q : Tree) → IsProgram p → Fits g p → IsProperIssued issued → AreIssued g issued → IsSettled issued p q
    → IsArrangement g issued q
member g issued p q prog fits proper allowed s =
    let new : Fits g q = settled_fits g issued p q fits s in
    let is : IsProgram q = settled_program issued p q prog proper (λ t c h. allowed t c ((fits.0 (Part t c)).0 h)) s in
    record {
      program = is;
      numbers = s.numbers;
      parts = λ t c. new.0 (Part t c);
      control = λ label from t c. new.1 (edge_into from (Part t c) (Control label));
      finals = λ x. new.0 (Final x);
      ascending = s.ascending;
      outer = λ v from label out there.
          (let e = edge_into from v (Control label) in
          let only = outer_controls q v from label out ((new.0 v).1 there) in
          (λ k. only.0 ((new.1 e).1 k), λ h. (new.1 e).0 (only.1 h)));
      directed = λ v t c d k h directs left.
          (let e = (new.1 (edge_into (Part v c) (Part t d) k)).1 h in
          let (says, says') = directed_ends q v t c d k e directs in
          one_left q v t c d is says says' (directed_left q v t c d k is e directs) left);
    }

-- where no arrangement has the graph, no program has it
pub none_has : (g : Graph) (rank : List Vertex) (issued : Issued) (ps : List Tree) → AreArrangements g rank issued ps → IsProperIssued issued → AreIssued g issued
    → NoneFits g ps → HasNoProgram g
none_has g rank issued ps are proper allowed none p prog fits =
    let (q, s) = settled issued p prog in
    none q ((are.0 q).1 (member g issued p q prog fits proper allowed s)) (settled_fits g issued p q fits s)
