use Rattle.std.proofs.lemmas.Str.{IsCharBoundary-from_take, IsUtf8-string_bytes}
use Rattle.tcap_words.proofs.text.cut_back.Goals as goal

pub truncate-requires : goal.truncate-requires
truncate-requires g c = λ _.
    let boundary = IsCharBoundary-from_take _ c.args.len (IsUtf8-string_bytes c.args.text.now) c.requires.within c.requires.whole in
    (boundary.0, λ _. boundary.1)
