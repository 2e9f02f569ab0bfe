-- Of graphs that are not whole the law of affected points is false: a vertex is reached from a directly affected one, and isn't affected.
use Rattle.std.proofs.Common.{◌≡◌, ◌↔◌, List, [], ◌∷◌, refl, sym, ap, ◌∙◌, subst}
use Rattle.hpr_graph.specs.declared.vertex.Vertex.{Vertex}
use Rattle.hpr_graph.specs.declared.vertex.Vertex.TheVariants.{Entry, Init, Final}
use Rattle.hpr_graph.specs.declared.edge.Kind.TheVariants as kind
use Rattle.hpr_graph.specs.declared.edge.Edge.{Edge}
use Rattle.hpr_graph.specs.Graphs.{Graph}
use Rattle.hpr_graph.specs.Slices.{Leads, LeadsTo, ReachesOne, IsReached}
use Rattle.hpr_graph.specs.Points.{IsShared, IsAffected}
use Rattle.hpr_graph.specs.Direct.{IsDirectlyAffected}
use Rattle.hpr_graph.specs.Whole.{IsWhole}

-- three vertices, and in one of the graphs an order edge whose ends don't lead to its shared use
abbrev lone : Edge
lone = record { to = Init []; from = Entry; kind = kind.Order (Final []) }

abbrev one_edge : Graph
one_edge = record { vertex = λ v. Unit {0}; edge = λ e. e ≡ lone }

abbrev no_edge : Graph
no_edge = record { vertex = λ v. Unit {0}; edge = λ e. ⊥ }

-- the use is directly affected
use_direct : IsReached one_edge (IsDirectlyAffected one_edge no_edge) (Final [])
use_direct = (Final [], [], (tt, λ alike. (alike.2 lone refl).0 refl), refl)

stays : (w : Vertex) (es : List Edge) → LeadsTo one_edge w es (Final []) → w ≡ Final []
stays w [] is = is
stays w (e ∷ es) (has, l, from, rest) = absurd (subst Leads (ap (λ (x : Edge). x.kind) has) l)

alone : (w : Vertex) → ReachesOne one_edge (λ s. s ≡ Final []) w → w ≡ Final []
alone w (s, es, is, leads) = stays w es (subst (λ (z : Vertex). LeadsTo one_edge w es z) is leads)

none_leads : (w : Vertex) (es : List Edge) (s : Vertex) → LeadsTo no_edge w es s → w ≡ s
none_leads w [] s is = is
none_leads w (e ∷ es) s (has, l, from, rest) = absurd has

entry_final : Entry ≡ Final [] → ⊥
entry_final e = cc

-- and isn't affected
use_shared : IsShared one_edge no_edge (Final [])
use_shared = (
  tt,
  (
    λ w. (
      λ (there, r). (tt, (Final [], [], refl, alone w r)),
      λ (there, (s, es, is, leads)). (tt, (Final [], [], refl, none_leads w es s leads ∙ is)),
    ),
    λ e. (
      λ (has, (to, from, third)). absurd (entry_final (sym (ap (λ (x : Edge). x.from) has) ∙ alone e.from from)),
      λ (has, inside). absurd has,
    ),
  ),
)

not_affected : ¬ IsAffected one_edge no_edge (Final [])
not_affected (there, differs) = differs use_shared

pub not_whole : ¬ IsWhole one_edge
not_whole whole = let (f, is, leads, from, to) = (whole.uses lone (Final []) refl refl).0 in subst Leads (ap (λ (x : Edge). x.kind) is) leads

pub law_fails : ¬ ((v : Vertex) → IsAffected one_edge no_edge v ↔ IsReached one_edge (IsDirectlyAffected one_edge no_edge) v)
law_fails law = not_affected ((law (Final [])).1 use_direct)
