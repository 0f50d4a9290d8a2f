-- What a message names, in the object of a message: two members for its application context, one for its components.
use Rattle.std.specs.Prelude.{ℕ, ℤ, List, [], ◌∷◌, ◌++◌, codes, Option, Some, None}
use Rattle.std.specs.Fmt.{signed_decimal}
use Rattle.std.specs.List.{flat_map}
use Rattle.object_identifiers.specs.Contents.{dotted_at}
use Rattle.tcap_component.specs.Component.{CodeParts}
use Rattle.tcap_judging.specs.CodeText.{code_kind, code_words, kind_words, octets_words}
use Rattle.tcap_judging.specs.MessageItems.{Item, Items, message_items}
use Rattle.tcap_judging.specs.Names.{NameParts, name_for}
use Rattle.tcap_judging.specs.declared.message_items.ItemKind.{ItemKind}
use Rattle.tcap_judging.specs.declared.message_items.ItemKind.TheVariants as kinds
use Rattle.tcap_judging.specs.declared.name_list.NameKind.TheVariants.{Context}

-- The name of an application context, if the list has one (own).
abbrev pub json_context_name : Option (List ℕ) → List ℕ
json_context_name None = []
json_context_name (Some name) = codes ",\"context_name\":\"" ++ (name ++ codes "\"")

-- An application context by its dotted form, and its name (own).
abbrev pub json_dotted : List NameParts → List ℕ → Option (List ℕ) → List ℕ
json_dotted names octets None = octets_words octets ++ codes "\""
json_dotted names octets (Some dotted) = dotted ++ (codes "\"" ++ json_context_name (name_for Context dotted names))

-- An application context, if there is one (own).
abbrev pub json_context : List NameParts → Option (List ℕ) → List ℕ
json_context names None = []
json_context names (Some octets) = codes ",\"context\":\"" ++ json_dotted names octets (dotted_at octets)

-- The invoke identifier of a component, or null where it has none (own).
abbrev pub json_id : Option ℤ → List ℕ
json_id None = codes "null"
json_id (Some id) = signed_decimal id

-- How the member with the name for a code begins (own).
abbrev pub json_code_opening : ItemKind → List ℕ
json_code_opening kinds.Invoke = codes ",\"operation\":\""
json_code_opening kinds.Result = codes ",\"operation\":\""
json_code_opening kinds.ResultMore = codes ",\"operation\":\""
json_code_opening kinds.Error = codes ",\"error\":\""
json_code_opening kinds.Reject = codes ",\"operation\":\""

-- The name for the code of a component, if it has one (own).
abbrev pub json_code : List NameParts → ItemKind → Option CodeParts → List ℕ
json_code names kind None = []
json_code names kind (Some code) = json_code_opening kind
    ++ (code_words names (code_kind kind) code ++ codes "\"")

-- The object of a component: its kind, its invoke identifier, and its operation or its error (own).
abbrev pub json_item : List NameParts → Item → List ℕ
json_item names item = codes "{\"kind\":\"" ++ (kind_words item.kind ++ (codes "\",\"id\":" ++ (json_id item.id
    ++ (json_code names item.kind item.code ++ codes "}"))))

-- The object of a component behind that of another (own).
abbrev pub json_next : List NameParts → Item → List ℕ
json_next names item = codes "," ++ json_item names item

-- The components, if there are any (own).
abbrev pub json_components : List NameParts → List Item → List ℕ
json_components names [] = []
json_components names (item ∷ items) = codes ",\"components\":[" ++ (json_item names item
    ++ (flat_map (json_next names) items ++ codes "]"))

-- The members for what a message names (own).
abbrev pub json_items : List NameParts → Items → List ℕ
json_items names items = json_context names items.context ++ json_components names items.components

-- The members for what the message that octets spell names (own).
abbrev pub json_names : List NameParts → List ℕ → List ℕ
json_names names octets = json_items names (message_items octets)
