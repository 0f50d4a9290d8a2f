-- What a message names, in the line of a message: its application context, and of each component the kind, the invoke
-- identifier and the operation or the error.
use Rattle.std.specs.Prelude.{ℕ, List, [], ◌++◌, codes, Option, Some, None}
use Rattle.std.specs.List.{flat_map}
use Rattle.object_identifiers.specs.Contents.{dotted_at}
use Rattle.tcap_component.specs.Component.{CodeParts}
use Rattle.tcap_words.specs.ComponentText.{identifier_words}
use Rattle.tcap_judging.specs.CodeText.{code_kind, code_words, kind_words, octets_words}
use Rattle.tcap_judging.specs.MessageItems.{Item, Items, message_items}
use Rattle.tcap_judging.specs.Names.{NameParts, name_for}
use Rattle.tcap_judging.specs.declared.message_items.ItemKind.{ItemKind}
use Rattle.tcap_judging.specs.declared.name_list.NameKind.TheVariants.{Context}

-- A name behind a space, if there is one (own).
abbrev pub name_behind : Option (List ℕ) → List ℕ
name_behind None = []
name_behind (Some name) = codes " " ++ name

-- An application context by its dotted form, and its name where the list has one (own).
abbrev pub dotted_words : List NameParts → List ℕ → Option (List ℕ) → List ℕ
dotted_words names octets None = octets_words octets
dotted_words names octets (Some dotted) = dotted ++ name_behind (name_for Context dotted names)

-- The words for an application context, if there is one (own).
abbrev pub context_words : List NameParts → Option (List ℕ) → List ℕ
context_words names None = []
context_words names (Some octets) = codes "; context " ++ dotted_words names octets (dotted_at octets)

-- The name for the code of a component behind a space, if it has one (own).
abbrev pub code_behind : List NameParts → ItemKind → Option CodeParts → List ℕ
code_behind names kind None = []
code_behind names kind (Some code) = codes " " ++ code_words names (code_kind kind) code

-- The words for a component: its kind, its invoke identifier, and its operation or its error (own).
abbrev pub item_words : List NameParts → Item → List ℕ
item_words names item = codes "; " ++ (kind_words item.kind ++ (codes " " ++ (identifier_words item.id
    ++ code_behind names item.kind item.code)))

-- The words for the components (own).
abbrev pub components_words : List NameParts → List Item → List ℕ
components_words names items = flat_map (item_words names) items

-- The words for what a message names (own).
abbrev pub items_words : List NameParts → Items → List ℕ
items_words names items = context_words names items.context ++ components_words names items.components

-- The words for what the message that octets spell names (own).
abbrev pub names_words : List NameParts → List ℕ → List ℕ
names_words names octets = items_words names (message_items octets)
