-- The twelve cases follow from the definitions by computing them.
use mathlib.Core.Path.{refl}
use Rattle.rules.specs.Names.{bits_in, held_in}
use Rattle.rules.specs.Partitions.{set_names, sets_agree}
use Rattle.rules.specs.Fields.{field, put_field, template_field, field_agrees}
use Rattle.rules.specs.Matching.{matches}
use Rattle.rules.specs.State.{holds, give, live}
use Rattle.rules.specs.Calls.{put_table, seek_table, step, opened}
use Rattle.rules.specs.Words.{zeros, encode, decode, row_ok, sound, call, opening}
use Rattle.rules.specs.Cases.{TwelveCases}

pub twelve-cases : TwelveCases
unfolding bits_in held_in set_names sets_agree field put_field template_field field_agrees matches holds give live put_table seek_table step opened zeros encode decode row_ok sound call opening
twelve-cases = (refl, (refl, (refl, ((refl, refl), ((refl, refl), (refl, (refl, (refl, (refl, (refl, (refl, (refl, tt))))))))))))
