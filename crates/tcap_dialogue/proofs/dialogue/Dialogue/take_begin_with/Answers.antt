use Rattle.tcap_dialogue.proofs.BeginMemoryLemmas.{short-names}
use Rattle.tcap_dialogue.proofs.dialogue.Dialogue.take_begin_with.Goals as goal

pub keep_found-requires : goal.keep_found-requires
keep_found-requires g c = short-names c.args.memory.now.names c.args.from.now _ c.requires.found.are_names

pub returns-clause-place : goal.returns-clause-place
returns-clause-place g c portion given before =
    c.handle_components.ensures.place portion (c.tell.ensures.place portion c.args.components (c.parts_of.ensures.place 0x60 portion given) before)
