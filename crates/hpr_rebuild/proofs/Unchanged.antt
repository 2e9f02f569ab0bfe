-- Where the rank begins with the parts of a program that has the graph, that program is what is found, at any budget.
use Rattle.std.proofs.Common.{◌≡◌, ◌≤◌, ℕ, zero, suc, List, [], ◌∷◌, ◌++◌, take, sym, ap, ◌∙◌, subst, arith}
use Rattle.hpr_syntax.specs.Issued.{Issued}
use Rattle.hpr_syntax.specs.Shape.{IsProgram}
use Rattle.hpr_syntax.specs.Tree.{Tree}
use Rattle.hpr_graph.specs.declared.vertex.Vertex.{Vertex}
use Rattle.hpr_graph.specs.Graphs.{Graph, IsOnce}
use Rattle.hpr_graph.specs.Rank.{parts_of}
use Rattle.hpr_graph.specs.Arrangements.{IsArrangement}
use Rattle.hpr_graph.specs.Answer.{Answer, interference, printed, no_program, spent, Fits, NoneFits, IsFirstFit, IsFound}
use Rattle.hpr_graph.proofs.Lists.{in_here}
use Rattle.hpr_order.specs.Arranging.{AreIssued}
use Rattle.hpr_syntax.specs.Proper.{IsProperIssued}
use Rattle.hpr_rebuild.specs.Settled.{IsSettled}
use Rattle.hpr_rebuild.proofs.Member.{member, settled_fits}
use Rattle.hpr_rebuild.proofs.First.{settled_first}

-- the first of a list, where it fits, is the first that fits
first_fits : (g : Graph) (ps qs : List Tree) (m q : Tree) → Fits g q → ps ≡ q ∷ qs → IsFirstFit g ps m → m ≡ q
first_fits g ps qs m q fits e ([], back, is, fits_m, none) = let same : m ∷ back ≡ q ∷ qs = sym is ∙ e in cc
first_fits g ps qs m q fits e (x ∷ front, back, is, fits_m, none) =
    let same : x ∷ (front ++ m ∷ back) ≡ q ∷ qs = sym is ∙ e in
    let head : q ≡ x = cc in
    absurd (none x (in_here x front) (subst (Fits g) head fits))

not_spent : (g : Graph) (tries : ℕ) (ps qs : List Tree) (q : Tree) → 1 ≤ tries → Fits g q → ps ≡ q ∷ qs → ¬ NoneFits g (take tries ps)
not_spent g zero ps qs q one fits e none = absurd (omega (arith, one))
not_spent g (suc k) ps qs q one fits e none =
    subst (λ (rs : List Tree). NoneFits g (take (suc k) rs)) e none q (in_here q (take k qs)) fits

pub found_first : (g : Graph) (rank rest : List Vertex) (issued : Issued) (tries : ℕ) (r : Answer) (p q : Tree) → IsOnce rank → IsProgram p → Fits g p
    → IsProperIssued issued → AreIssued g issued → IsSettled issued p q → rank ≡ parts_of p ++ rest → 1 ≤ tries → IsFound g rank issued tries r → r ≡ printed q
found_first g rank rest issued tries r p q once prog fits proper allowed s begins one found = at r found
  where
    is_q : IsArrangement g issued q
    is_q = member g issued p q prog fits proper allowed s

    fits_q : Fits g q
    fits_q = settled_fits g issued p q fits s

    at : (r : Answer) → IsFound g rank issued tries r → r ≡ printed q
    at (interference cs) found = absurd found
    at (printed m) (ps, are, first) =
        let (qs, e) = settled_first g rank issued ps p q rest are once s is_q begins in
        ap printed (first_fits g ps qs m q fits_q e first)
    at (no_program n) (none, parts) = absurd (none p prog fits)
    at spent (ps, are, more, none, leaves) =
        let (qs, e) = settled_first g rank issued ps p q rest are once s is_q begins in
        absurd (not_spent g tries ps qs q one fits_q e none)
