-- What reading the words for points comes to.
--
-- RefusesPoint P words stop        == the first of the words of which P doesn't hold is named in the message;
--                                     or memory ran out
-- JudgesPoints P words result      == P holds of each word; or as above
-- AreNumbersIn texts words numbers == the places of exactly those texts that are among the words
-- HasTexts set texts               == the set has exactly these texts
-- AddsText old new text            == the new set has the text too, and nothing else that the old one hasn't
-- AreNumbersFor g words numbers    == the numbers of exactly those vertices of g for which one of the words
--                                     is
-- ReadsPoints g words result       == these numbers, where each word is that for a vertex of g; or as above
use Rattle.std.specs.Prelude.{◌≡◌, ◌⊎◌, ◌↔◌, ◌<◌, ℕ, Some, List, Contains, All, IsTrue, slice_get, length, Vec, Result, Ok, Err, String, string_bytes}
use Rattle.std.specs.BTreeSet.{BTreeSet, contains}
use Rattle.std.specs.Cmp.Lexicographic.{slice_cmp}
use Rattle.std.specs.Global.{Global}
use Rattle.std.specs.Ordering.{nat_cmp}
use Rattle.hpr_graph.specs.declared.vertex.Vertex.{Vertex}
use Rattle.hpr_graph.specs.Numbered.{Numbered, graph_in}
use Rattle.hpr_words.specs.Request.{Text}
use Rattle.hpr_inputs.specs.Points.{IsFirstStranger, IsNamed, IsPoint, no_such_point}
use Rattle.hpr_inputs.specs.declared.answer.Stop.{Stop}
use Rattle.hpr_inputs.specs.declared.answer.Stop.TheVariants as stop

abbrev pub RefusesPoint : (Text → Type 0) → List Text → Stop → Type 0
RefusesPoint P words (stop.Refused message) = (word : Text) × IsFirstStranger P words word × (string_bytes message ≡ no_such_point word)
RefusesPoint P words (stop.ReadFault message) = ⊥
RefusesPoint P words stop.Memory = Unit {0}

abbrev pub JudgesPoints : (Text → Type 0) → List Text → Result (Unit {0}) Stop → Type 0
JudgesPoints P words (Ok u) = All P words
JudgesPoints P words (Err s) = RefusesPoint P words s

pub record AreNumbersIn (texts words : List Text) (numbers : List ℕ) : Type 0 where
  pub within : All (λ n. n < length texts) numbers
  pub exact : (at : ℕ) (text : Text) → slice_get texts at ≡ Some text → Contains numbers at ↔ Contains words text

abbrev pub has : BTreeSet (String Global) → String Global → Type 0
has set s = IsTrue (contains (λ x y. slice_cmp nat_cmp (string_bytes x) (string_bytes y)) set s)

abbrev pub HasTexts : BTreeSet (String Global) → List Text → Type 0
HasTexts set texts = (s : String Global) → has set s ↔ Contains texts (string_bytes s)

abbrev pub AddsText : BTreeSet (String Global) → BTreeSet (String Global) → Text → Type 0
AddsText old new text = (s : String Global) → has new s ↔ (has old s ⊎ (string_bytes s ≡ text))

pub record AreNumbersFor (g : Numbered) (words : List Text) (numbers : List ℕ) : Type 0 where
  pub within : All (λ n. n < length g.vertices) numbers
  pub exact : (at : ℕ) (v : Vertex) → slice_get g.vertices at ≡ Some v → Contains numbers at ↔ IsPoint words v

abbrev pub ReadsPoints : Numbered → List Text → Result (Vec ℕ Global) Stop → Type 0
ReadsPoints g words (Ok numbers) = All (IsNamed (graph_in g)) words × AreNumbersFor g words numbers.items
ReadsPoints g words (Err s) = RefusesPoint (IsNamed (graph_in g)) words s
