-- The definitions on texts of directives and on values.
use Rattle.std.proofs.Common.{◌≡◌, true, false, [], ◌∷◌, map, Some, None, Ok, Err, refl}
use Rattle.std.specs.Prelude.{codes}
use Rattle.link_base.specs.Bytes.{first_below}
use Rattle.directives.specs.Said as says
use Rattle.directives.specs.Said.{Said}
use Rattle.directives.specs.Text.{is_text, is_name}
use Rattle.directives.specs.Form.{quoted_form, form, whole, pair}
use Rattle.directives.specs.Names.{is_word, listed}
use Rattle.directives.specs.Number.{digits_value, are_digits, digits_up_to, decimal_up_to, number_up_to}
use Rattle.directives.specs.Attribute.{attribute_of, stand_together, say_together, attributes_of}
use Rattle.directives.specs.declared.item.ExportForm.TheVariants.{Code, Data}
use Rattle.directives.specs.ExportValue.{export_internal, export_of, export_value}
use Rattle.directives.specs.Value.{name_of, names_of, value_said}
use Rattle.directives.specs.Words.{leaves_open, ends_word, word_len, words, last_quote, open_quote, quoted_contents, contents, option_says, contents_say, word_says, words_say, text_says, directives_of}

-- ---- texts

open_quote-at_9 : directives_of (codes " /EXPORT:\"x") ≡ Err (record { at = 9 }) ∷ []
unfolding directives_of text_says words words_say word_says open_quote last_quote leaves_open word_len ends_word first_below
open_quote-at_9 = refl

passed_over : directives_of (codes " -guardsym:x,S \"/include:main\"") ≡ Ok (says.Include (codes "main")) ∷ []
unfolding directives_of text_says words words_say word_says open_quote last_quote leaves_open word_len ends_word first_below quoted_contents contents contents_say option_says listed is_word is_name is_text name_of whole form
passed_over = refl

-- the words before a malformed one are said, and those after it are not
ends_at_a_malformed_one : directives_of (codes "/include:a /export /include:b") ≡ Ok (says.Include (codes "a")) ∷ Err (record { at = 11 }) ∷ []
unfolding directives_of text_says words words_say word_says open_quote last_quote leaves_open word_len ends_word first_below quoted_contents contents contents_say option_says listed is_word is_name is_text name_of whole form export_value export_of
ends_at_a_malformed_one = refl

-- ---- values of exports

forwarder : export_value (codes "a=k.f") ≡ Some (record { name = codes "a"; internal = Some (codes "k.f"); ordinal = None; noname = false; form = Code; private = false })
unfolding export_value export_of export_internal form is_name is_text
forwarder = refl

quoted_name : export_value (codes "\"a=b,c\"=d,@65535") ≡ Some (record { name = codes "a=b,c"; internal = Some (codes "d"); ordinal = Some 65535; noname = false; form = Code; private = false })
unfolding export_value export_of export_internal form quoted_form is_name is_text attributes_of attribute_of stand_together say_together decimal_up_to digits_up_to are_digits digits_value
quoted_name = refl

by_ordinal : export_value (codes "main,@5,NoName,DATA") ≡ Some (record { name = codes "main"; internal = None; ordinal = Some 5; noname = true; form = Data; private = false })
unfolding export_value export_of form is_name is_text attributes_of attribute_of stand_together say_together decimal_up_to digits_up_to are_digits digits_value is_word
by_ordinal = refl

refused_exports : map export_value (codes "a,@1=b" ∷ codes "a,DATA,DATA" ∷ codes "a,@1,@2" ∷ codes "a,@05" ∷ codes "a,@65536" ∷ codes "a,NONAME" ∷ codes "a," ∷ codes "a=,DATA" ∷ codes ",DATA" ∷ codes "a\"b" ∷ []) ≡ None ∷ None ∷ None ∷ None ∷ None ∷ None ∷ None ∷ None ∷ None ∷ None ∷ []
unfolding export_value export_of export_internal form is_name is_text attributes_of attribute_of stand_together say_together decimal_up_to digits_up_to are_digits digits_value is_word
refused_exports = refl

-- ---- values of other directives

common : value_said (codes "AlignComm") (codes "\"c,1\",13") ≡ Some (says.AlignComm (codes "c,1") 13)
unfolding value_said listed is_word pair form quoted_form is_name is_text decimal_up_to digits_up_to are_digits digits_value
common = refl

first_equals_splits : value_said (codes "ALTERNATENAME") (codes "u=v=w") ≡ Some (says.AlternateName (codes "u") (codes "v=w"))
unfolding value_said listed is_word names_of pair form is_name is_text
first_equals_splits = refl

value_of_a_key : value_said (codes "failifmismatch") (codes "k=") ≡ Some (says.FailIfMismatch (codes "k") [])
unfolding value_said listed is_word pair form is_name is_text
value_of_a_key = refl

refused_values : value_said (codes "ALIGNCOMM") (codes "c,06") ∷ value_said (codes "ALIGNCOMM") (codes "a,b,3") ∷ value_said (codes "MERGE") (codes ".a=") ∷ value_said (codes "INCLUDE") (codes "\"\"") ∷ value_said (codes "OUT") (codes "a.exe") ∷ [] ≡ None ∷ None ∷ None ∷ None ∷ None ∷ []
unfolding value_said listed is_word names_of name_of whole pair form quoted_form is_name is_text decimal_up_to digits_up_to are_digits digits_value
refused_values = refl

-- ---- numbers

numbers : number_up_to 4294967295 (codes "0x00fFfFfFfF") ∷ number_up_to 4294967295 (codes "4294967296") ∷ number_up_to 99 (codes "0") ∷ number_up_to 99 (codes "07") ∷ number_up_to 99 (codes "0X1") ∷ number_up_to 99 (codes "0x") ∷ number_up_to 99 (codes "0x00000000000000001") ∷ [] ≡ Some 4294967295 ∷ None ∷ Some 0 ∷ None ∷ None ∷ None ∷ None ∷ []
unfolding number_up_to decimal_up_to digits_up_to are_digits digits_value
numbers = refl
