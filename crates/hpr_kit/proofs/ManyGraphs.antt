-- The graphs of several programs.
use Rattle.std.proofs.Common.{◌≡◌, ◌∙◌, ◌+◌, ◌-◌, ◌<◌, ◌≤◌, ℕ, zero, suc, Bor, ap, List, [], ◌∷◌, ◌++◌, Contains, arith, drop, get_or, inl, inr, length, map, Result, Ok, Err, IfOk, Vec, Global, sym, subst, take}
use Rattle.std.proofs.lemmas.List.{get_or-map, length-map, take_all, take_more}
use Rattle.hpr_syntax.specs.Shape.{IsProgram}
use Rattle.hpr_syntax.specs.Tree.{Tree}
use Rattle.hpr_graph.specs.declared.conflict.ManyConflict.{ManyConflict}
use Rattle.hpr_graph.specs.Conflicts.{AreConflictsBy, told_many}
use Rattle.hpr_graph.specs.Graphs.{Same}
use Rattle.hpr_graph.specs.Numbered.{Numbered, graph_in, graphs_in}
use Rattle.hpr_graph.specs.ProgramGraph.{graph_of}
use Rattle.hpr_graph.specs.Whole.{AreAll, IsWhole}
use Rattle.hpr_engine.specs.Made.{AreGraphsOf, IsGraphOf}
use Rattle.hpr_closure.proofs.ProgramWhole.{program_whole}
use Rattle.hpr_closure.proofs.WholeSlices.{whole_same}
use Rattle.hpr_json.specs.Refusals.{edges_text}
use Rattle.hpr_words.specs.Request.{Text}
use Rattle.hpr_kit.specs.Answer.{Answer, refuses}
use Rattle.hpr_kit.specs.Graphs.{AreConflictsOf, HasTooManyEdges, OnGraphs}
use Rattle.hpr_kit.specs.Private.Graphs.{AreGraphs, SaysIn}
use Rattle.hpr_kit.specs.Private.Replies.{seen}
use Rattle.hpr_kit.specs.declared.load.Halt.{Halt}
use Rattle.hpr_kit.specs.declared.load.Halt.TheVariants as halt
use Rattle.hpr_kit.proofs.LoadLemmas.{names}

-- what is said of all graphs
pub all_made : (names : List Text) (ps : List Tree) (gs : List Numbered) (next : List Numbered → Type 0) (a : Answer) → length ps ≡ length names → AreGraphs ps gs → next gs
    → OnGraphs names ps next a
all_made [] [] [] next a same are h = h
all_made [] [] (g ∷ gs) next a same are h = absurd are
all_made [] (p ∷ ps) gs next a same are h = absurd (omega (arith, same))
all_made (n ∷ names) [] gs next a same are h = absurd (omega (arith, same))
all_made (n ∷ names) (p ∷ ps) [] next a same are h = absurd are
all_made (n ∷ names) (p ∷ ps) (g ∷ gs) next a same are h =
    inr (are.1, (g, are.0, all_made names ps gs (λ hs. next (g ∷ hs)) a (omega (arith, same)) are.2 h))

-- a graph that has too many edges decides whatever is said of all
refused_graphs : (names : List Text) (ps : List Tree) (next : List Numbered → Type 0) (a : Answer) → OnGraphs names ps (λ gs. ⊥) a → OnGraphs names ps next a
refused_graphs [] ps next a h = absurd h
refused_graphs (n ∷ names) [] next a h = absurd h
refused_graphs (n ∷ names) (p ∷ ps) next a (inl h) = inl h
refused_graphs (n ∷ names) (p ∷ ps) next a (inr (few, (g, same, h))) = inr (few, (g, same, refused_graphs names ps (λ gs. next (g ∷ gs)) a h))

pub halts_all : (names : List Text) (ps : List Tree) (N : List Numbered → Answer → Type 0) (x : Halt) → SaysIn (λ a. OnGraphs names ps (λ gs. ⊥) a) x
    → SaysIn (λ a. OnGraphs names ps (λ gs. N gs a) a) x
halts_all names ps N (halt.Refused reply) h = refused_graphs names ps (λ gs. N gs (seen reply)) (seen reply) h
halts_all names ps N (halt.Stop s) h = h

-- the first graph that has too many edges, behind others
first_large : (names : List Text) (ps : List Tree) (i : ℕ) (gs : List Numbered) (name : Text) (p : Tree) (a : Answer) → length ps ≡ length names → i < length ps
    → AreGraphs (take i ps) gs → HasTooManyEdges (get_or ps i p) → a ≡ refuses (edges_text (get_or names i name)) → OnGraphs names ps (λ gs. ⊥) a
first_large [] ps i gs name p a same low are many is = absurd (omega (arith, same, low))
first_large (n ∷ names) [] i gs name p a same low are many is = absurd (omega (arith, low))
first_large (n ∷ names) (q ∷ ps) zero gs name p a same low are many is = inl (many, is)
first_large (n ∷ names) (q ∷ ps) (suc i) [] name p a same low are many is = absurd are
first_large (n ∷ names) (q ∷ ps) (suc i) (g ∷ gs) name p a same low are many is =
    inr (are.1, (g, are.0, first_large names ps i gs name p a (omega (arith, same)) (omega (arith, low)) are.2 many is))

-- the same of names that are borrowed
pub halts_at : (xs : List (Bor Text)) (ps : List Tree) (i : ℕ) (gs : List Numbered) (d : Bor Text) (p : Tree) → length ps ≡ length xs → i < length ps → p ≡ get_or ps i p
    → AreGraphs (take i ps) gs → (x : Halt) → SaysIn (λ a. HasTooManyEdges p × (a ≡ refuses (edges_text (get_or xs i d).now))) x
    → SaysIn (λ a. OnGraphs (names xs) ps (λ gs. ⊥) a) x
halts_at xs ps i gs d p same low is_program are (halt.Refused reply) (many, is) =
    let name = (get_or xs i d).now in
    let within : i < length xs = omega (arith, same, low) in
    let named : get_or (names xs) i name ≡ name = get_or-map (λ (b : Bor Text). b.now) xs i d name within in
    first_large (names xs) ps i gs name p (seen reply) (same ∙ sym (length-map xs (λ (b : Bor Text). b.now))) low are (subst HasTooManyEdges is_program many)
    (is ∙ ap (λ (n : Text). refuses (edges_text n)) (sym named))
halts_at xs ps i gs d p same low is_program are (halt.Stop s) h = h

-- one more graph
one_more : (ps : List Tree) (gs : List Numbered) (p : Tree) (g : Numbered) → AreGraphs ps gs → Same (graph_in g) (graph_of p) → (¬ HasTooManyEdges p)
    → AreGraphs (ps ++ p ∷ []) (gs ++ g ∷ [])
one_more [] [] p g are same few = (same, few, tt)
one_more [] (h ∷ gs) p g are same few = absurd are
one_more (q ∷ ps) [] p g are same few = absurd are
one_more (q ∷ ps) (h ∷ gs) p g are same few = (are.0, are.1, one_more ps gs p g are.2 same few)

pub next_made : (ps : List Tree) (i : ℕ) (gs hs : List Numbered) (p : Tree) (g : Numbered) → i < length ps → p ≡ get_or ps i p → AreGraphs (take i ps) gs
    → Same (graph_in g) (graph_of p) → (¬ HasTooManyEdges p) → hs ≡ gs ++ g ∷ [] → AreGraphs (take (i + 1) ps) hs
next_made ps i gs hs p g low is are same few more =
    let next : take (i + 1) ps ≡ take i ps ++ p ∷ [] = take_more ps i p low ∙ ap (λ (q : Tree). take i ps ++ q ∷ []) (sym is) in
    subst (AreGraphs (take (i + 1) ps)) (sym more) (subst (λ qs. AreGraphs qs (gs ++ g ∷ [])) (sym next) (one_more (take i ps) gs p g are same few))

whole_more : (gs : List Numbered) (g : Numbered) → AreAll IsWhole (graphs_in gs) → IsWhole (graph_in g) → AreAll IsWhole (graphs_in (gs ++ g ∷ []))
whole_more [] g are is = (is, tt)
whole_more (h ∷ gs) g are is = (are.0, whole_more gs g are.1 is)

pub next_whole : (gs hs : List Numbered) (g : Numbered) (p : Tree) → AreAll IsWhole (graphs_in gs) → IsProgram p → Same (graph_in g) (graph_of p) → hs ≡ gs ++ g ∷ []
    → AreAll IsWhole (graphs_in hs)
next_whole gs hs g p are is same more =
    subst (λ xs. AreAll IsWhole (graphs_in xs)) (sym more) (whole_more gs g are (whole_same (graph_in g) (graph_of p) same (program_whole p is)))

-- the graphs of programs, and one more
graphs_more : (ps : List Tree) (gs : List Numbered) (p : Tree) (g : Numbered) → AreGraphsOf ps gs → IsGraphOf p g → AreGraphsOf (ps ++ p ∷ []) (gs ++ g ∷ [])
graphs_more [] [] p g are is = (is, tt)
graphs_more [] (h ∷ gs) p g are is = absurd are
graphs_more (q ∷ ps) [] p g are is = absurd are
graphs_more (q ∷ ps) (h ∷ gs) p g are is = (are.0, graphs_more ps gs p g are.1 is)

pub next_graphs : (ps : List Tree) (i : ℕ) (gs hs : List Numbered) (p : Tree) (g : Numbered) → i < length ps → p ≡ get_or ps i p → AreGraphsOf (take i ps) gs → IsGraphOf p g
    → hs ≡ gs ++ g ∷ [] → AreGraphsOf (take (i + 1) ps) hs
next_graphs ps i gs hs p g low is are one more =
    let next : take (i + 1) ps ≡ take i ps ++ p ∷ [] = take_more ps i p low ∙ ap (λ (q : Tree). take i ps ++ q ∷ []) (sym is) in
    subst (AreGraphsOf (take (i + 1) ps)) (sym more) (subst (λ qs. AreGraphsOf qs (gs ++ g ∷ [])) (sym next) (graphs_more (take i ps) gs p g are one))

-- the conflicts of the variants behind base
pub among : {E : Type 0} (gs : List Numbered) (base : Numbered) → base ≡ get_or gs 0 base → 3 ≤ length gs → (result : Result (Vec ManyConflict Global) E)
    → IfOk result (λ cs. AreConflictsBy (λ t. t) (graph_in base) (graphs_in (take (length gs - 1) (drop 1 gs))) (map told_many cs.items))
    → IfOk result (λ cs. (c : ManyConflict) → Contains cs.items c → 1 ≤ c.variant) → IfOk result (λ cs. AreConflictsOf gs cs.items)
among [] base is least result by numbers = absurd (omega (arith, least))
among (g ∷ gs) base is least (Ok cs) by numbers =
    let all : take (length (g ∷ gs) - 1) gs ≡ gs = take_all (length (g ∷ gs) - 1) gs (omega arith) in (
      subst (λ (vs : List Numbered). AreConflictsBy (λ t. t) (graph_in g) (graphs_in vs) (map told_many cs.items)) all
          (subst (λ (b : Numbered). AreConflictsBy (λ t. t) (graph_in b) (graphs_in (take (length (g ∷ gs) - 1) gs)) (map told_many cs.items)) is by),
      numbers,
    )
among (g ∷ gs) base is least (Err e) by numbers = tt
