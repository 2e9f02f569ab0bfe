-- Which tags a text gets where parts have none, and the text with these tags.
--
-- x y z are the kinds of three lexemes, one behind the other; in front of the first stands nothing (`Other`).
--
-- is_number a x          == x is the number a
-- is_any_number x        == x is a number
-- is_colon x             == x is a colon
-- begins_part x          == x is what a part begins with behind its tag
-- lacks_tag x y z        == a part without a tag begins with z: behind a word or a sign that opens, or behind
--                           a colon and a number, which in a program are the last of its header
-- lacking x y z          == 1 where it does, else 0
-- serial_behind a x z    == z, where it is a number and x is the number a; else 0
-- serial_in a x y z      == the same where y is a dot or a colon, else 0: a serial of the author a, which in
--                           a program stands in a tag or in the header
-- is_pair a x y z        == z is the number of a's pair in the header: behind a and a colon
-- opens_header y z       == z is the first number of the header
-- greatest_in a x y ls   == the greatest serial of a in the lexemes, or 0
-- untagged x y ls        == how many parts without a tag begin in the lexemes
-- has_pair a x y ls      == the header has a pair of a
-- last_serial a ls       == the last serial of a: that of the last part without a tag
-- Numbering              == an author, its greatest serial, its last, whether the header has a pair of it
-- put_at m n x y z       == what is put in front of z, or in its place, where n is a's last serial so far
-- replaced p l           == the byte behind those in whose place p is put: a number gives way, no other byte
-- changes m n x y ls     == what is put in front of the lexemes, or in their place
-- changes_of m ls        == the same, and nothing where no part lacks a tag
-- put_text a p           == what is put in, as bytes
-- changed a bytes n cs   == the bytes from n on, with the changes
-- place_back a n cs k    == where the byte k of the changed bytes stands among the bytes, both from n on;
--                           what is put in stands at the byte where it is put in
-- kept a bytes           == the text as it was written, with the tags
-- last_in a bytes        == the last serial of the author in it
use Rattle.std.specs.Prelude.{ℕ, ◌+◌, ◌-◌, ◌==◌, ◌||◌, ◌&&◌, not, max, nat_eq, nat_lt, if◌then◌else◌, Bool, true, false, List, [], ◌∷◌, ◌++◌, length, take, drop, Option, Some, None, codes}
use Rattle.std.specs.Fmt.{decimal}
use Rattle.hpr_terms.specs.Texts.{tag_text}
use Rattle.hpr_tagging.specs.declared.lexemes.Kind.{Kind}
use Rattle.hpr_tagging.specs.declared.lexemes.Kind.TheVariants.{Opens, Begins, Issued, Number, Dot, Colon, Other}
use Rattle.hpr_tagging.specs.declared.lexemes.Begun.TheVariants.{Nothing}
use Rattle.hpr_tagging.specs.declared.lexemes.Lexeme.{Lexeme}
use Rattle.hpr_tagging.specs.declared.counts.Numbering.{Numbering}
use Rattle.hpr_tagging.specs.declared.changes.Put.{Put}
use Rattle.hpr_tagging.specs.declared.changes.Put.TheVariants.{Label, Raised, Pair}
use Rattle.hpr_tagging.specs.declared.changes.Change.{Change}
use Rattle.hpr_tagging.specs.Lexemes.{some_of, lexemes}

abbrev pub is_number : ℕ → Kind → Bool
is_number a (Number n) = n == a
is_number a _ = false

abbrev pub is_any_number : Kind → Bool
is_any_number (Number n) = true
is_any_number _ = false

abbrev pub is_colon : Kind → Bool
is_colon Colon = true
is_colon _ = false

abbrev pub begins_part : Kind → Bool
begins_part Begins = true
begins_part _ = false

abbrev pub lacks_tag : Kind → Kind → Kind → Bool
lacks_tag x Opens z = begins_part z
lacks_tag x (Number n) z = is_colon x && begins_part z
lacks_tag x y z = false

abbrev pub lacking : Kind → Kind → Kind → ℕ
lacking x y z = if lacks_tag x y z then 1 else 0

abbrev pub serial_behind : ℕ → Kind → Kind → ℕ
serial_behind a x (Number n) = if is_number a x then n else 0
serial_behind a x z = 0

abbrev pub serial_in : ℕ → Kind → Kind → Kind → ℕ
serial_in a x Dot z = serial_behind a x z
serial_in a x Colon z = serial_behind a x z
serial_in a x y z = 0

abbrev pub is_pair : ℕ → Kind → Kind → Kind → Bool
is_pair a x Colon z = is_any_number z && is_number a x
is_pair a x y z = false

abbrev pub opens_header : Kind → Kind → Bool
opens_header Issued z = is_any_number z
opens_header y z = false

abbrev pub greatest_in : ℕ → Kind → Kind → List Lexeme → ℕ
greatest_in a x y [] = 0
greatest_in a x y (l ∷ ls) = max (serial_in a x y l.kind) (greatest_in a y l.kind ls)

abbrev pub untagged : Kind → Kind → List Lexeme → ℕ
untagged x y [] = 0
untagged x y (l ∷ ls) = lacking x y l.kind + untagged y l.kind ls

abbrev pub has_pair : ℕ → Kind → Kind → List Lexeme → Bool
has_pair a x y [] = false
has_pair a x y (l ∷ ls) = is_pair a x y l.kind || has_pair a y l.kind ls

abbrev pub last_serial : ℕ → List Lexeme → ℕ
last_serial a ls = greatest_in a Other Other ls + untagged Other Other ls

abbrev pub numbering_of : ℕ → List Lexeme → Numbering
numbering_of a ls =
    record {
      author = a;
      greatest = greatest_in a Other Other ls;
      last = last_serial a ls;
      is_listed = has_pair a Other Other ls;
    }

abbrev pub put_at : Numbering → ℕ → Kind → Kind → Kind → Option Put
put_at m n x y z =
    if lacks_tag x y z then Some (Label (n + 1)) else
    (if is_pair m.author x y z then Some (Raised m.last) else
    (if not m.is_listed && opens_header y z then Some (Pair m.last) else None))

abbrev pub replaced : Put → Lexeme → ℕ
replaced (Raised n) l = l.end
replaced (Label n) l = l.first
replaced (Pair n) l = l.first

abbrev pub change_by : Option Put → Lexeme → Option Change
change_by None l = None
change_by (Some p) l = Some (record { first = l.first; end = replaced p l; put = p })

abbrev pub changes : Numbering → ℕ → Kind → Kind → List Lexeme → List Change
changes m n x y [] = []
changes m n x y (l ∷ ls) =
    some_of (change_by (put_at m n x y l.kind) l) ++ changes m (n + lacking x y l.kind) y l.kind ls

abbrev pub changes_of : Numbering → List Lexeme → List Change
changes_of m ls = if nat_eq m.greatest m.last then [] else changes m m.greatest Other Other ls

abbrev pub put_text : ℕ → Put → List ℕ
put_text a (Label n) = tag_text (record { author = a; serial = n }) ++ codes ": "
put_text a (Raised n) = decimal n
put_text a (Pair n) = decimal a ++ codes ":" ++ decimal n ++ codes ", "

abbrev pub changed : ℕ → List ℕ → ℕ → List Change → List ℕ
changed a bytes n [] = drop n bytes
changed a bytes n (c ∷ cs) = take (c.first - n) (drop n bytes) ++ put_text a c.put ++ changed a bytes c.end cs

abbrev pub place_back : ℕ → ℕ → List Change → ℕ → ℕ
place_back a n [] k = n + k
place_back a n (c ∷ cs) k =
    if nat_lt k (c.first - n) then n + k else
    (if nat_lt (k - (c.first - n)) (length (put_text a c.put)) then c.first else
    place_back a c.end cs (k - (c.first - n) - length (put_text a c.put)))

unfoldable pub changes_in : ℕ → List ℕ → List Change
changes_in a bytes = changes_of (numbering_of a (lexemes Nothing 0 bytes)) (lexemes Nothing 0 bytes)

abbrev pub kept : ℕ → List ℕ → List ℕ
kept a bytes = changed a bytes 0 (changes_in a bytes)

unfoldable pub last_in : ℕ → List ℕ → ℕ
last_in a bytes = last_serial a (lexemes Nothing 0 bytes)
