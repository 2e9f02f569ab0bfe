-- Refusals as JSON.
--
-- shape_word error         == what the refusal of a tree that fails this test is called
-- kind_word why            == what the refusal of a file is called
-- with_cause error ms      == the members, with the tag, the name or the number of parts that the test is about
-- with_place why ms        == the same of the refusal of a file, or with the byte that it is about
-- refused_members file kind message == a file is refused so
-- refusal_data file why    == the file is refused for this
-- edges_text file          == the message on a file whose program has a graph with too many edges
-- edges_data file          == the file is refused for that
-- state_data message       == a word of the state is refused with this message
-- absent_data file         == there is no such file
-- words_data               == the words are no call
use Rattle.std.specs.Prelude.{ℕ, List, [], ◌++◌, codes}
use Rattle.std.specs.Fmt.{decimal}
use Rattle.serde_json.specs.Data.{Data, Members, string, object, member, no_members, put}
use Rattle.hpr_terms.specs.declared.limits.TheConstants.{MAX_EDGES}
use Rattle.hpr_terms.specs.Texts.{tag_text}
use Rattle.hpr_syntax.specs.declared.shape.ShapeError.{ShapeError}
use Rattle.hpr_syntax.specs.declared.shape.ShapeError.TheVariants as shape
use Rattle.hpr_refusals.specs.declared.files.Refusal.{Refusal}
use Rattle.hpr_refusals.specs.declared.files.Refusal.TheVariants as refusal
use Rattle.hpr_refusals.specs.Reasons.{about, refusal_text}
use Rattle.hpr_report.specs.GraphJson.{number_data}

-- no file is refused for want of memory
abbrev pub shape_word : ShapeError → List ℕ
shape_word (shape.DuplicateTag t) = codes "tag twice"
shape_word (shape.Unissued t) = codes "tag not issued"
shape_word (shape.TooDeep t) = codes "too deep"
shape_word (shape.ExprTooLarge t) = codes "expression too large"
shape_word (shape.WrongName t) = codes "wrong name"
shape_word (shape.TooManyParts n) = codes "too many parts"
shape_word (shape.DuplicateFinal x) = codes "name twice"
shape_word shape.Memory = []

abbrev pub kind_word : Refusal → List ℕ
kind_word refusal.Longer = codes "too long"
kind_word (refusal.Syntax place) = codes "syntax"
kind_word (refusal.Shape error) = shape_word error

abbrev pub with_cause : ShapeError → Members → Members
with_cause (shape.DuplicateTag t) ms = put (codes "tag") (string (tag_text t)) ms
with_cause (shape.Unissued t) ms = put (codes "tag") (string (tag_text t)) ms
with_cause (shape.TooDeep t) ms = put (codes "tag") (string (tag_text t)) ms
with_cause (shape.ExprTooLarge t) ms = put (codes "tag") (string (tag_text t)) ms
with_cause (shape.WrongName t) ms = put (codes "tag") (string (tag_text t)) ms
with_cause (shape.TooManyParts n) ms = put (codes "parts") (number_data n) ms
with_cause (shape.DuplicateFinal x) ms = put (codes "name") (string x) ms
with_cause shape.Memory ms = ms

abbrev pub with_place : Refusal → Members → Members
with_place refusal.Longer ms = ms
with_place (refusal.Syntax place) ms = put (codes "byte") (number_data place) ms
with_place (refusal.Shape error) ms = with_cause error ms

abbrev pub refused_members : List ℕ → List ℕ → List ℕ → Members
refused_members file kind message =
    member (codes "file") (string file)
    (member (codes "kind") (string kind)
    (member (codes "message") (string message) (member (codes "status") (string (codes "refused")) no_members)))

abbrev pub refusal_data : List ℕ → Refusal → Data
refusal_data file why = object (with_place why (refused_members file (kind_word why) (refusal_text file why)))

abbrev pub edges_text : List ℕ → List ℕ
edges_text file = about file (codes "graph has more than " ++ decimal MAX_EDGES ++ codes " edges")

abbrev pub edges_data : List ℕ → Data
edges_data file = object (refused_members file (codes "too many edges") (edges_text file))

abbrev pub state_data : List ℕ → Data
state_data message =
    object
    (member (codes "kind") (string (codes "state word"))
    (member (codes "message") (string message) (member (codes "status") (string (codes "refused")) no_members)))

abbrev pub absent_data : List ℕ → Data
absent_data file = object (member (codes "file") (string file) (member (codes "status") (string (codes "absent")) no_members))

abbrev pub words_data : Data
words_data = object (member (codes "status") (string (codes "words")) no_members)
