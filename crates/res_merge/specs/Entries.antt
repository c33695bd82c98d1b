-- Resources as plain data: what names one, and what it holds (Windows, "Resource File Formats").
use Rattle.std.specs.Prelude.{ℕ, List, Result, Ok, Err}
use Rattle.link_base.specs.declared.kinds.resource.ResName.{ResName}
use Rattle.link_base.specs.declared.kinds.resource.ResName.TheVariants as name
use Rattle.res_merge.specs.declared.resource.Resource.{Resource}
use Rattle.res_merge.specs.declared.resource.ResError.{ResError}

-- a type or a name: a number, or a text by the bytes of its units
pub data Key : Type 0 where
  Number : ℕ → Key
  Text : List ℕ → Key

abbrev pub key_of : ResName → Key
key_of (name.Number number) = Number number
key_of (name.Text units) = Text units.now

-- a resource: its type, its name, its language and its data
pub record Entry : Type 0 where
  pub kind : Key
  pub name : Key
  pub language : ℕ
  pub body : List ℕ

abbrev pub entry_of : Resource → Entry
entry_of resource = record {
  kind = key_of resource.kind;
  name = key_of resource.name;
  language = resource.language;
  body = resource.body.now;
}

-- what an item of the iterator over a file says
abbrev pub item_said : Result Resource ResError → Result Entry ResError
item_said (Ok resource) = Ok (entry_of resource)
item_said (Err error) = Err error
