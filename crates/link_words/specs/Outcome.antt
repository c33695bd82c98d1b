-- A command as plain data: what a borrowed one says.
use Rattle.std.specs.Prelude.{ℕ, Bool, List, Option, option_map}
use Rattle.std.specs.Option.{option_copied}
use Rattle.std.specs.String.{string_bytes}
use Rattle.directives.specs.declared.item.Export.{Export}
use Rattle.link_words.specs.SettingsView.{texts_of}
use Rattle.link_words.specs.declared.errors.UsageKind.{UsageKind}
use Rattle.link_words.specs.declared.options.Options.{Options}
use Rattle.link_words.specs.declared.options.Command.{Command}
use Rattle.link_words.specs.declared.options.Command.TheVariants as command

pub record LinkOptions : Type 0 where
  pub inputs : List (List ℕ)
  pub alternates : List (List ℕ × List ℕ)
  pub merges : List (List ℕ × List ℕ)
  pub default_libs : List (List ℕ)
  pub exports : List Export
  pub includes : List (List ℕ)
  pub base : ℕ
  pub debug : Bool
  pub dll : Bool
  pub noentry : Bool
  pub dynamic : Bool
  pub entropy : Bool
  pub nx : Bool
  pub large : Bool
  pub entry_name : Option (List ℕ)
  pub fixed : Bool
  pub heap : ℕ × ℕ
  pub stack : ℕ × ℕ
  pub lib_paths : List (List ℕ)
  pub map_file : Option (List ℕ)
  pub implib : Option (List ℕ)
  pub no_default : List (List ℕ)
  pub no_default_all : Bool
  pub refs : Option Bool
  pub icf : Bool
  pub out : List ℕ
  pub pdb : List ℕ
  pub subsystem : ℕ
  pub time : ℕ
  pub version : ℕ × ℕ

-- what borrowed options say
abbrev pub options_said : Options → LinkOptions
options_said options = record {
  inputs = texts_of options.inputs.items;
  alternates = options.alternates.items;
  merges = options.merges.items;
  default_libs = texts_of options.default_libs.items;
  exports = options.exports.items;
  includes = options.includes.items;
  base = options.base;
  debug = options.debug;
  dll = options.dll;
  noentry = options.noentry;
  dynamic = options.dynamic;
  entropy = options.entropy;
  nx = options.nx;
  large = options.large;
  entry_name = options.entry;
  fixed = options.fixed;
  heap = options.heap;
  stack = options.stack;
  lib_paths = texts_of options.lib_paths.items;
  map_file = option_map string_bytes options.map;
  implib = option_copied options.implib;
  no_default = texts_of options.no_default.items;
  no_default_all = options.no_default_all;
  refs = options.refs;
  icf = options.icf;
  out = string_bytes options.out;
  pdb = string_bytes options.pdb;
  subsystem = options.subsystem;
  time = options.time;
  version = options.version;
}

pub data CommandSaid : Type 0 where
  Link : LinkOptions → CommandSaid
  At : List ℕ → ℕ → ℕ → ℕ → CommandSaid
  Show : List ℕ → List ℕ → ℕ → List ℕ → ℕ → CommandSaid
  Gen : ℕ → CommandSaid

-- what a command says
abbrev pub command_said : Command → CommandSaid
command_said (command.Link options) = Link (options_said options)
command_said (command.At image base rva len) = At image.now base rva len
command_said (command.Show image pdb base symbol len) = Show image.now pdb.now base symbol.now len
command_said (command.Gen n) = Gen n

-- a refused word, by its index, with the first kind that holds of it
pub record Refused : Type 0 where
  pub index : ℕ
  pub kind : UsageKind

abbrev pub refuse : ℕ → UsageKind → Refused
refuse index kind = record { index = index; kind = kind }
