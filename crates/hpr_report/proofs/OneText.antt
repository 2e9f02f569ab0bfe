-- A graph has one text and one JSON, and the same graphs have the same.
use Rattle.std.proofs.Common.{◌≡◌, ℕ, ◌↔◌, List, ◌++◌, codes, sym, ap, ap₂, ◌∙◌}
use Rattle.serde_json.specs.Written.{compact_text}
use Rattle.hpr_graph.specs.declared.vertex.Vertex.{Vertex}
use Rattle.hpr_graph.specs.Graphs.{Graph, Same}
use Rattle.hpr_graph.proofs.InOrder.{vertices_agree, edges_agree, vertices_of_same, edges_of_same}
use Rattle.hpr_report.specs.GraphTexts.{graph_text, IsGraphText}
use Rattle.hpr_report.specs.GraphJson.{graph_data, IsGraphJson}
use Rattle.hpr_report.specs.AffectedText.{affected_text, IsAffectedText}

pub one_graph_text : (g : Graph) (text other : List ℕ) → IsGraphText g text → IsGraphText g other → text ≡ other
one_graph_text g text other (vs, es, are_vs, are_es, is) (us, fs, are_us, are_fs, is_too) =
    is ∙ ap₂ graph_text (vertices_agree g vs us are_vs are_us) (edges_agree g es fs are_es are_fs) ∙ sym is_too

pub one_graph_json : (g : Graph) (text other : List ℕ) → IsGraphJson g text → IsGraphJson g other → text ≡ other
one_graph_json g text other (vs, es, are_vs, are_es, is) (us, fs, are_us, are_fs, is_too) =
    let same = ap₂ graph_data (vertices_agree g vs us are_vs are_us) (edges_agree g es fs are_es are_fs) in
    is ∙ ap (λ d. compact_text d ++ codes "\n") same ∙ sym is_too

pub graph_text_same : (g h : Graph) (text : List ℕ) → Same g h → IsGraphText g text → IsGraphText h text
graph_text_same g h text same (vs, es, are_vs, are_es, is) = (vs, es, vertices_of_same g h vs same are_vs, edges_of_same g h es same are_es, is)

pub graph_json_same : (g h : Graph) (text : List ℕ) → Same g h → IsGraphJson g text → IsGraphJson h text
graph_json_same g h text same (vs, es, are_vs, are_es, is) = (vs, es, vertices_of_same g h vs same are_vs, edges_of_same g h es same are_es, is)

-- some vertices have one text, and so have the same vertices
pub one_affected_text : (P : Vertex → Type 0) (text other : List ℕ) → IsAffectedText P text → IsAffectedText P other → text ≡ other
one_affected_text P text other (vs, are_vs, is) (us, are_us, is_too) =
    let only : Graph = record { vertex = P; edge = λ e. ⊥ } in
    is ∙ ap affected_text (vertices_agree only vs us are_vs are_us) ∙ sym is_too

pub affected_text_same : (P Q : Vertex → Type 0) (text : List ℕ) → ((v : Vertex) → P v ↔ Q v) → IsAffectedText P text → IsAffectedText Q text
affected_text_same P Q text same (vs, (up, all), is) = (vs, (up, λ v. (λ h. (same v).0 ((all v).0 h), λ q. (all v).1 ((same v).1 q))), is)
