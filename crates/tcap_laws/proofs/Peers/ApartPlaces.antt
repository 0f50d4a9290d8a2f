-- Places at which no address is that of two engines: something tells of each address whose it is.
use Rattle.std.proofs.Common.{◌≡◌, ◌∙◌, bytes_eq, IsTrue, List, [], ◌∷◌, sym, ap, inl, inr}
use Rattle.std.specs.List.{AllByRecursion, list_any}
use Rattle.std.proofs.lemmas.Bool.{or_cases}
use Rattle.std.proofs.lemmas.Slice.Eq.{bytes_eq-Decides}
use Rattle.tcap_model.specs.Statements.Net.{AreApart, Engine, Places}
use Rattle.tcap_model.specs.Words.Address.{Address}

module _ (whose : Address → Engine) where
  -- it tells of each of these addresses that it is this engine's
  abbrev pub TellsOf : Engine → List Address → Type 0
  TellsOf engine addresses = AllByRecursion (λ address. whose address ≡ engine) addresses

  told-of : (engine : Engine) (addresses : List Address) → TellsOf engine addresses → (address : Address)
      → IsTrue (list_any (bytes_eq address) addresses) → whose address ≡ engine
  told-of engine [] told address at = absurd cc
  told-of engine (place ∷ places) told address at =
      elim (or_cases (bytes_eq address place) (list_any (bytes_eq address) places) at) [
        | inl here ↦ ap whose ((bytes_eq-Decides address place).0 here) ∙ told.0
        | inr there ↦ told-of engine places told.1 address there
      ]

  pub apart-by : (places : Places) → ((engine : Engine) → TellsOf engine (places engine)) → AreApart places
  apart-by places told one other address here there =
      sym (told-of one (places one) (told one) address here)
      ∙ told-of other (places other) (told other) address there
