use Rattle.std.proofs.Common.{◌≤◌, length, ap, sym, ◌∙◌, arith, Some}
use Rattle.std.specs.Str.{chars}
use Rattle.std.proofs.lemmas.Str.{IsUtf8-from_ascii, chars-IsAscii}
use Rattle.script_text.proofs.Names.{name_is_ascii, parts_of_name}
use Rattle.script_text.proofs.terms.atom_of.Goals as goal

pub unreachable-requires : goal.unreachable-requires
unreachable-requires c = c.in_default.ensures.cases.0 (IsUtf8-from_ascii c.args.name.now (name_is_ascii c.args.name.now c.requires))

pub unreachable-requires-in-Err-TooLong : goal.unreachable-requires-in-Err-TooLong
unreachable-requires-in-Err-TooLong c =
    let same = c.in-Ok.ensures.cases.0 in
    let few : length (chars c.in-Ok.text.now) ≤ 255 = rw same (rw (chars-IsAscii c.args.name.now (name_is_ascii c.args.name.now c.requires)) (omega (arith, (parts_of_name c.args.name.now c.requires).few))) in
    cc (c.in-Err-TooLong.ensures.fits few)

pub returns-in-Ok-atom : goal.returns-in-Ok-atom
returns-in-Ok-atom c =
    let same = c.in-Ok.ensures.cases.0 in
    let text = chars-IsAscii c.args.name.now (name_is_ascii c.args.name.now c.requires) in
    ap Some (sym (c.in-Ok-atom.ensures.name ∙ ap chars same ∙ text))
