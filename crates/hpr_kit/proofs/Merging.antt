-- An integration of programs, of which the first is base.
use Rattle.std.proofs.Common.{◌≡◌, ◌≤◌, ◌-◌, ◌++◌, ◌∙◌, ℕ, List, [], ◌∷◌, Contains, ap, arith, drop, get_or, length, map, None, Option, Some, Global, Vec, refl, sym, subst, take}
use Rattle.std.proofs.lemmas.List.{map-append, take_all}
use Rattle.hpr_syntax.specs.Issued.{Issued}
use Rattle.hpr_syntax.specs.Tree.{Tree}
use Rattle.hpr_graph.specs.declared.conflict.ManyConflict.{ManyConflict}
use Rattle.hpr_graph.specs.declared.edge.Edge.{Edge}
use Rattle.hpr_graph.specs.declared.vertex.Vertex.{Vertex}
use Rattle.hpr_graph.specs.Answer.{HasParts, IsAnswerBy, interference, no_program, printed, spent}
use Rattle.hpr_graph.specs.Conflicts.{told_many}
use Rattle.hpr_graph.specs.Numbered.{Numbered, graph_in}
use Rattle.hpr_engine.specs.Made.{AreGraphsOf, IsGraphOf}
use Rattle.hpr_rebuild.specs.declared.clash.FirstClash.{FirstClash}
use Rattle.hpr_outcome.specs.Outcomes.{IfInterference, IfMerged, IfNoProgram, IfSpent, IsClashTold, IsMergedBy, IsNoneBy, IsSoughtFor, IsSpentBy}
use Rattle.hpr_outcome.specs.declared.outcome.Outcome.{Outcome}
use Rattle.hpr_outcome.specs.declared.outcome.Outcome.TheVariants as outcome
use Rattle.hpr_told.specs.Clashes.{HasClashInGraph, IsClashWithin}
use Rattle.hpr_told.proofs.Within.{clash_within}
use Rattle.hpr_kit.specs.Merges.{ComesOf, ComesOfBase, files_for, variants_first}

-- the first behind the others
pub turned : {X Y : Type 0} (f : X → Y) (xs ys : List X) → ys ≡ drop 1 xs ++ take 1 xs → map f ys ≡ variants_first (map f xs)
turned f [] ys is = ap (map f) is
turned f (x ∷ xs) ys is = ap (map f) is ∙ map-append f xs (x ∷ [])

pub not_turned : {X Y : Type 0} (f : X → Y) (xs : List X) → length xs ≡ 0 → map f xs ≡ variants_first (map f xs)
not_turned f [] none = refl
not_turned f (x ∷ xs) none = absurd (omega (arith, none))

-- the variants' files first, but where they interfere
pub first_told : {X : Type 0} (o : Outcome) (ss : List X) → ((cs : Vec ManyConflict Global) → o ≡ outcome.Interference cs → ⊥) → variants_first ss ≡ files_for o ss
first_told (outcome.Interference cs) ss other = absurd (other cs refl)
first_told (outcome.Merged p s) ss other = refl
first_told (outcome.NoProgram s c) ss other = refl
first_told (outcome.Spent s c) ss other = refl

clash_told_within : (g : Numbered) (rank : List Vertex) (issued : Issued) (o : Option FirstClash) → IsClashTold g rank issued o → IsClashWithin g o
clash_told_within g rank issued None h = tt
clash_told_within g rank issued (Some f) (front, c, numbers, part, first) = clash_within g f front c numbers part

-- what an integration comes to, by each of its cases
module _ (base : Tree) (vs : List Tree) (tries : ℕ) where
  pub record Clauses (o : Outcome) : Type 0 where
    pub interference : IfInterference o (λ cs. IsAnswerBy (λ t. t) base vs tries (interference (map told_many cs)))
    pub numbers : IfInterference o (λ cs. (c : ManyConflict) → Contains cs c → 1 ≤ c.variant)
    pub printed : IfMerged o (λ p s. IsAnswerBy {X = ℕ × Vertex × Edge} (λ t. t) base vs tries (printed p))
    pub merged : IfMerged o (λ p s. IsSoughtFor base vs s (λ rank issued. IsMergedBy rank issued tries p s))
    pub no_program : IfNoProgram o (λ s c. (n : ℕ) → HasParts (graph_in s.graph) n
        → IsAnswerBy {X = ℕ × Vertex × Edge} (λ t. t) base vs tries (no_program n))
    pub none : IfNoProgram o (λ s c. IsSoughtFor base vs s (λ rank issued. IsNoneBy rank issued tries s c))
    pub spent : IfSpent o (λ s c. IsAnswerBy {X = ℕ × Vertex × Edge} (λ t. t) base vs tries spent)
    pub unfound : IfSpent o (λ s c. IsSoughtFor base vs s (λ rank issued. IsSpentBy rank issued tries s c))

  pub comes : (o : Outcome) → Clauses o → ComesOfBase base vs tries o
  comes (outcome.Interference cs) h = (h.interference, h.numbers)
  comes (outcome.Merged p s) h = (h.printed, h.merged)
  comes (outcome.NoProgram s c) h = (h.no_program, h.none)
  comes (outcome.Spent s c) h = (h.spent, h.unfound)

  pub clash_in : (o : Outcome) → ComesOfBase base vs tries o → HasClashInGraph o
  clash_in (outcome.Interference cs) h = tt
  clash_in (outcome.Merged p s) h = tt
  clash_in (outcome.NoProgram s c) (answer, (split, same, (rank, ranked, by))) = clash_told_within s.graph rank _ c by.3
  clash_in (outcome.Spent s c) (answer, (split, same, (rank, ranked, by))) = clash_told_within s.graph rank _ c by.2

-- the same of programs, of which the first is base
pub comes_of : (ps : List Tree) (base : Tree) (tries : ℕ) (o : Outcome) → base ≡ get_or ps 0 base → 3 ≤ length ps
    → ComesOfBase base (take (length ps - 1) (drop 1 ps)) tries o → ComesOf ps tries o
comes_of [] base tries o is least h = absurd (omega (arith, least))
comes_of (p ∷ ps) base tries o is least h =
    let all : take (length (p ∷ ps) - 1) ps ≡ ps = take_all (length (p ∷ ps) - 1) ps (omega arith) in
    subst (λ (vs : List Tree). ComesOfBase p vs tries o) all
    (subst (λ (b : Tree). ComesOfBase b (take (length (p ∷ ps) - 1) ps) tries o) is h)

-- the graph of base, and those of the variants
pub first_graph : (ps : List Tree) (gs : List Numbered) (p : Tree) (g : Numbered) → 3 ≤ length ps → p ≡ get_or ps 0 p → g ≡ get_or gs 0 g → AreGraphsOf ps gs
    → IsGraphOf p g
first_graph [] gs p g least first graph are = absurd (omega (arith, least))
first_graph (q ∷ ps) [] p g least first graph are = absurd are
first_graph (q ∷ ps) (h ∷ gs) p g least first graph are =
    subst (λ (x : Numbered). IsGraphOf p x) (sym graph) (subst (λ (x : Tree). IsGraphOf x h) (sym first) are.0)

pub other_graphs : (ps : List Tree) (gs : List Numbered) → 3 ≤ length ps → AreGraphsOf ps gs
    → AreGraphsOf (take (length ps - 1) (drop 1 ps)) (take (length gs - 1) (drop 1 gs))
other_graphs [] gs least are = absurd (omega (arith, least))
other_graphs (q ∷ ps) [] least are = absurd are
other_graphs (q ∷ ps) (h ∷ gs) least are =
    subst (λ (xs : List Tree). AreGraphsOf xs (take (length (h ∷ gs) - 1) gs)) (sym (take_all (length (q ∷ ps) - 1) ps (omega arith)))
    (subst (AreGraphsOf ps) (sym (take_all (length (h ∷ gs) - 1) gs (omega arith))) are.1)
