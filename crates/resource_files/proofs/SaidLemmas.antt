-- The faults of resource files hold no place of a text, so that each is what it says; and so of several faults.
use Rattle.std.proofs.Common.{◌≡◌, ℕ, zero, suc, ◌+◌, Bool, true, false, cond, List, length, Option, Some, None, refl, sym, ap, ◌∙◌}
use Rattle.std.proofs.lemmas.Option.{same_Some}
use Rattle.std.specs.Prelude.{option_map}
use Rattle.std.specs.Option.{option_or}
use Rattle.link_base.specs.Refusals.{first_refusal_below}
use Rattle.link_base.specs.declared.fault.Fault.{Fault}
use Rattle.link_base.specs.declared.fault.Fault.TheVariants as faults
use Rattle.link_base.specs.declared.kinds.form.Kind.TheVariants.{SecondResource}
use Rattle.link_base.specs.declared.stop.Refusal.TheVariants as refusal
use Rattle.res_merge.specs.declared.resource.ResError.{ResError}
use Rattle.res_merge.specs.Entries.{Key, Number, Text, Entry, key_of}
use Rattle.file_search.specs.FoundFiles.{FoundFile}
use Rattle.resource_files.specs.SaidFaults.{name_of, fault_said}
use Rattle.resource_files.specs.Held.{error_in, entries_in, bad_entry, first_again, duplicate, resource_fault}

abbrev pub IsPlain : Option Fault → Type 0
IsPlain o = option_map fault_said o ≡ o

pub plain_fault : (o : Option Fault) (fault : Fault) → IsPlain o → o ≡ Some fault → fault_said fault ≡ fault
plain_fault o fault plain is = same_Some (fault_said fault) fault (sym (ap (option_map fault_said) is) ∙ plain ∙ is)

-- ---- of several

pub plain_or : (a b : Option Fault) → IsPlain a → IsPlain b → IsPlain (option_or a b)
plain_or (Some fault) b p q = p
plain_or None b p q = q

pub plain_if : (b : Bool) (fault : Fault) → fault_said fault ≡ fault → IsPlain (cond b (Some fault) None)
plain_if true fault e = ap Some e
plain_if false fault e = refl

pub plain_first : (n : ℕ) (f : ℕ → Option Fault) → ((k : ℕ) → IsPlain (f k)) → IsPlain (first_refusal_below n f)
unfolding first_refusal_below
plain_first zero f plain = refl
plain_first (suc n) f plain = plain_or (first_refusal_below n f) (f n) (plain_first n f plain) (plain n)

-- ---- a resource file

name_plain : (key : Key) → name_of (key_of (name_of key)) ≡ name_of key
name_plain (Number number) = refl
name_plain (Text units) = refl

pub resource_plain : (found : FoundFile) (brings : Bool) (entries : List Entry) → IsPlain (resource_fault found brings entries)
resource_plain found brings entries =
    plain_or _ _ (plain_if brings (faults.Unsupported found.file None SecondResource) refl)
    (plain_or _ _ (of_entry (error_in found))
    (plain_or _ _ (plain_if _ (faults.TooManyResources (length entries + length (entries_in found))) refl) (of_duplicate (first_again entries (entries_in found)))))
  where
    of_entry : (e : Option ResError) → IsPlain (option_map (bad_entry found.file) e)
    of_entry (Some error) = refl
    of_entry None = refl

    of_duplicate : (o : Option Entry) → IsPlain (option_map (duplicate found.file) o)
    of_duplicate (Some entry) =
        ap (λ kind. Some (faults.DuplicateResource found.file None kind (name_of (key_of (name_of entry.name))) entry.language)) (name_plain entry.kind)
        ∙ ap (λ name. Some (faults.DuplicateResource found.file None (name_of entry.kind) name entry.language)) (name_plain entry.name)
    of_duplicate None = refl
