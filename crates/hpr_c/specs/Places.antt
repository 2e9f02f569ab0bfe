-- What a call that tells places hands out.
--
-- place_data q            == the first byte of a part, how many bytes it has, and its tag
-- places_data qs          == these places, in their order
-- TellsPlaces bytes text  == the bytes are of an accepted length and spell a program, and the text is the line
--                            of the places of its parts
-- TellsRefusal bytes text == the bytes are refused as those of a file with the name `text` are, and the text
--                           is the line of the object that tells it
use Rattle.std.specs.Prelude.{◌≡◌, ◌≤◌, ℕ, List, length, map, codes}
use Rattle.serde_json.specs.Data.{Data, array, object, member, no_members, string}
use Rattle.serde_json.specs.View.{items_of}
use Rattle.hpr_terms.specs.Texts.{tag_text}
use Rattle.hpr_terms.specs.declared.limits.TheConstants.{MAX_FILE}
use Rattle.hpr_syntax.specs.Grammar.{tagged}
use Rattle.hpr_refusals.specs.Refusals.{IsCauseIn}
use Rattle.hpr_refusals.specs.declared.files.Refusal.{Refusal}
use Rattle.hpr_report.specs.GraphJson.{number_data}
use Rattle.hpr_places.specs.Places.{ArePlaces}
use Rattle.hpr_places.specs.declared.place.Placed.{Placed}
use Rattle.hpr_json.specs.Answers.{json_line}
use Rattle.hpr_json.specs.Refusals.{refusal_data}

abbrev pub place_data : Placed → Data
place_data q =
    object
    (member (codes "byte") (number_data q.place.first)
    (member (codes "length") (number_data q.place.length) (member (codes "tag") (string (tag_text q.tag)) no_members)))

abbrev pub places_data : List Placed → Data
places_data qs = array (items_of (map place_data qs))

abbrev pub TellsPlaces : List ℕ → List ℕ → Type 0
TellsPlaces bytes text =
    (qs : List Placed) × (length bytes ≤ MAX_FILE) × ArePlaces bytes qs × (text ≡ json_line (places_data qs))

abbrev pub TellsRefusal : List ℕ → List ℕ → Type 0
TellsRefusal bytes text =
    (why : Refusal) × IsCauseIn tagged bytes why × (text ≡ json_line (refusal_data (codes "text") why))
