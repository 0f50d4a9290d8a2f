-- What the subcommand that was found asks for.
use Rattle.std.proofs.Common.{◌≡◌, ℕ, List, Option, Some, None, refl, sym, ap, ◌∙◌, codes}
use Rattle.std.specs.Prelude.{option_map, option_and_then}
use Rattle.clap.specs.Words.{Row, Text, first_of}
use Rattle.tcap_cmd.specs.CommandLine.{show, check, canon, play, stream, asked_by}

abbrev some : {A : Type 0} → A → Option A
some x = Some x

some_is : {A : Type 0} (x y : A) → some x ≡ some y → x ≡ y
some_is x y e = cc

abbrev pair : Text → List Row → Text × List Row
pair name rows = (name, rows)

module _ {X : Type 0} (name_of : X → Text) (rows_of : X → List Row) where
  -- a subcommand that was found is its name and its rows
  pub pair_of : (s : Option X) (name : Text) (rows : List Row) → some name ≡ option_map name_of s → some rows ≡ option_map (λ (p : Text × List Row). p.1) (option_map (λ b. pair (name_of b) (rows_of b)) s) → option_map (λ b. pair (name_of b) (rows_of b)) s ≡ some (pair name rows)
  pair_of None name rows p q = absurd cc
  pair_of (Some b) name rows p q =
      let first : name ≡ name_of b = some_is name (name_of b) p in
      let second : rows ≡ rows_of b = some_is rows (rows_of b) q in
      ap (λ (n : Text). some (pair n (rows_of b))) (sym first) ∙ ap (λ (r : List Row). some (pair name r)) (sym second)

-- `show` asks for the text of its HEX, if it has one
pub shown_by : (o : Option (Text × List Row)) (name : Text) (rows : List Row) (hex : Option (List ℕ)) → o ≡ some (pair name rows) → name ≡ codes "show" → hex ≡ first_of (codes "hex") rows → option_map (λ h. show h) hex ≡ option_and_then asked_by o
shown_by o name rows hex found named first = rw (found, named, first) refl

-- `check` asks for the verdict on its HEX, if it has one
pub checked_by : (o : Option (Text × List Row)) (name : Text) (rows : List Row) (hex : Option (List ℕ)) → o ≡ some (pair name rows) → name ≡ codes "check" → hex ≡ first_of (codes "hex") rows → option_map (λ h. check h) hex ≡ option_and_then asked_by o
checked_by o name rows hex found named first = rw (found, named, first) refl

-- `canon` asks for the canonical form of its HEX, if it has one
pub rewritten_by : (o : Option (Text × List Row)) (name : Text) (rows : List Row) (hex : Option (List ℕ)) → o ≡ some (pair name rows) → name ≡ codes "canon" → hex ≡ first_of (codes "hex") rows → option_map (λ h. canon h) hex ≡ option_and_then asked_by o
rewritten_by o name rows hex found named first = rw (found, named, first) refl

-- `play` asks for the play of the script
pub played_by : (o : Option (Text × List Row)) (name : Text) (rows : List Row) → o ≡ some (pair name rows) → name ≡ codes "play" → some play ≡ option_and_then asked_by o
played_by o name rows found named = rw (found, named) refl

-- `stream` asks for the verdicts on the messages of the stream
pub streamed_by : (o : Option (Text × List Row)) (name : Text) (rows : List Row) → o ≡ some (pair name rows) → name ≡ codes "stream" → some stream ≡ option_and_then asked_by o
streamed_by o name rows found named = rw (found, named) refl
