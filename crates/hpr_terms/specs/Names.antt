-- Names, and what may have a value.
--
-- is_name_byte b == b is an ASCII letter, a digit or `_`
-- is_name_like w == w has 1 to MAX_NAME such bytes and doesn't begin with a digit: a name, or a keyword
-- is_name w      == w is like a name, and no keyword
-- IsName w       == w is a name; IsArray w and IsVariable w likewise
-- stream         == the name of the stream that a program writes: the keyword `out`, so no name is the
--                   stream's
-- is_stream w    == w is that name
-- array_of x     == the name of the array whose elements are written x[..]: the name x and `[]`
-- is_array w     == w is an array's name: a name and `[]`
-- base_of w      == the array's name w without its `[]`; any other text as it is
-- is_variable w  == w is a name, the stream's or an array's: what may have a value
use Rattle.std.specs.Prelude.{ℕ, ◌-◌, Bool, false, not, ◌==◌, ◌||◌, ◌&&◌, nat_le, if◌then◌else◌, List, [], ◌∷◌, ◌++◌, length, take, drop, is_none, codes, IsTrue}
use Rattle.std.specs.Char.{is_ascii_digit, is_ascii_alphanumeric}
use Rattle.std.specs.List.{list_all}
use Rattle.std.specs.Str.{bytes_eq}
use Rattle.hpr_terms.specs.declared.limits.TheConstants.{MAX_NAME}
use Rattle.hpr_terms.specs.Keywords.{keyword_of}

unfoldable pub is_name_byte : ℕ → Bool
is_name_byte b = is_ascii_alphanumeric b || (b == 95)

abbrev pub begins_with_digit : List ℕ → Bool
begins_with_digit [] = false
begins_with_digit (b ∷ bs) = is_ascii_digit b

unfoldable pub is_name_like : List ℕ → Bool
is_name_like w = nat_le 1 (length w) && nat_le (length w) MAX_NAME && list_all is_name_byte w && not (begins_with_digit w)

unfoldable pub is_name : List ℕ → Bool
is_name w = is_name_like w && is_none (keyword_of w)

abbrev pub IsName : List ℕ → Type 0
IsName w = IsTrue (is_name w)

abbrev pub stream : List ℕ
stream = codes "out"

abbrev pub is_stream : List ℕ → Bool
is_stream w = bytes_eq w stream

abbrev pub array_of : List ℕ → List ℕ
array_of x = x ++ codes "[]"

unfoldable pub is_array : List ℕ → Bool
is_array w = bytes_eq (drop (length w - 2) w) (codes "[]") && is_name (take (length w - 2) w)

abbrev pub IsArray : List ℕ → Type 0
IsArray w = IsTrue (is_array w)

unfoldable pub base_of : List ℕ → List ℕ
base_of w = if is_array w then take (length w - 2) w else w

unfoldable pub is_variable : List ℕ → Bool
is_variable w = is_name w || is_stream w || is_array w

abbrev pub IsVariable : List ℕ → Type 0
IsVariable w = IsTrue (is_variable w)
