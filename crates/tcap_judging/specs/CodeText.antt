-- What is printed for a code and for an application context, by a list of names.
use Rattle.std.specs.Prelude.{ℕ, List, ◌++◌, codes, Option, Some, None}
use Rattle.std.specs.Fmt.{signed_decimal}
use Rattle.hex.specs.Hex.{encode_lower}
use Rattle.object_identifiers.specs.Contents.{dotted_at}
use Rattle.tcap_component.specs.Component.{CodeParts}
use Rattle.tcap_component.specs.Component.CodeParts.{local, global}
use Rattle.tcap_judging.specs.Names.{NameParts, name_for}
use Rattle.tcap_judging.specs.declared.message_items.ItemKind.{ItemKind}
use Rattle.tcap_judging.specs.declared.message_items.ItemKind.TheVariants as kinds
use Rattle.tcap_judging.specs.declared.name_list.NameKind.{NameKind}
use Rattle.tcap_judging.specs.declared.name_list.NameKind.TheVariants.{Operation, Error}

-- An object identifier that has no dotted form, since one of its numbers is above the limit (own).
abbrev pub octets_words : List ℕ → List ℕ
octets_words octets = codes "0x" ++ encode_lower octets

-- A name, or the key where the list has none for it (own).
abbrev pub name_or : Option (List ℕ) → List ℕ → List ℕ
name_or None key = key
name_or (Some name) key = name

-- The name of this kind for a key, or the key (own).
abbrev pub key_words : List NameParts → NameKind → List ℕ → List ℕ
key_words names kind key = name_or (name_for kind key names) key

-- The name for a global code, by its dotted form (own).
abbrev pub global_words : List NameParts → NameKind → List ℕ → Option (List ℕ) → List ℕ
global_words names kind octets None = octets_words octets
global_words names kind octets (Some dotted) = key_words names kind dotted

-- The name for a code: for its number in decimal, or its numbers with dots between them (own).
abbrev pub code_words : List NameParts → NameKind → CodeParts → List ℕ
code_words names kind (local number) = key_words names kind (signed_decimal number)
code_words names kind (global octets) = global_words names kind octets (dotted_at octets)

-- What the code of a component is of: an operation, but in an error (own).
abbrev pub code_kind : ItemKind → NameKind
code_kind kinds.Invoke = Operation
code_kind kinds.Result = Operation
code_kind kinds.ResultMore = Operation
code_kind kinds.Error = Error
code_kind kinds.Reject = Operation

-- The words for the kind of a component (own).
abbrev pub kind_words : ItemKind → List ℕ
kind_words kinds.Invoke = codes "invoke"
kind_words kinds.Result = codes "result"
kind_words kinds.ResultMore = codes "result more"
kind_words kinds.Error = codes "error"
kind_words kinds.Reject = codes "reject"
