-- What an answer unfolds to compute what a text of the schema language is.
use Rattle.std.specs.Prelude.{⊤}
use Rattle.dms_base.specs.Name.{is_name}
use Rattle.dms_base.specs.Reserved.{is_reserved}
use Rattle.dms_base.specs.Words.{is_word}
use Rattle.dms_tokens.specs.Tokens.{byte_turn, fresh_byte, word_byte, dashes_byte, whole_byte, greater_byte, end_turn}
use Rattle.dasdl_phrases.specs.Cursors.{word_at, sign_at, equal_at, comma_at, name_at, number_at, turns, turns_at}
use Rattle.dasdl_phrases.specs.Kinds.{literal_at, joined_number, signed_width_at, width_at, size_at, places_at, alpha_at, decimal_at, kind_at}
use Rattle.dasdl_phrases.specs.Keys.{direction_at, part_at, parts_at, key_at}
use Rattle.dasdl_phrases.specs.Conditions.{close_factor, op_at, compare_at, compare_turn_at, open_turn_at, factor_turn_at, close_turn_at, join_turn_at, cond_turn_at, cond_at, cond_decl_at}
use Rattle.dasdl_parse.specs.Items.{item_option_at, next_item_option_at, item_at}
use Rattle.dasdl_parse.specs.Sets.{duplicates_at, plain_option_at, set_option_at, next_set_option_at, set_word_at, set_at}
use Rattle.dasdl_parse.specs.Grammar.{item_turn_at, restart_at, data_set_at, structure_turn_at, declared_turn_at, data_set_end_at, end_turn_at, named_turn_at, schema_turn_at, schema_at, schema_of}
use Rattle.dasdl_compile.specs.Answers.{steps}
use Rattle.dasdl_compile.specs.Compile.{is_misplaced as is_misplaced_data_set, data_set_at as data_set_judged, inside_at, declared_at, finish_drafts, compile_schema}
use Rattle.dasdl_compile.specs.Conditions.{value_in, literal_of, comparison, condition, verify_tree}
use Rattle.dasdl_compile.specs.Finding.{is_structure, has_restart, kind_of, data_set_named, is_taken}
use Rattle.dasdl_compile.specs.Keys.{is_part, key_item_at, run_of, part_at as part_judged, short_key, key_at as key_judged}
use Rattle.dasdl_compile.specs.Members.{initial_of, item_at as item_judged, end_at, member_at}
use Rattle.dasdl_compile.specs.Outlines.{outlined_item, outlined_member, outlined_inside, outlined_data_set, outlined_set, outlined_one}
use Rattle.dasdl_compile.specs.Sets.{where_of, key_of, options_at, is_misplaced, set_over, set_at as set_judged}
use Rattle.dasdl_compile.specs.Widths.{value_width, condition_width, items_width, groups_width, parts_width, data_set_width, set_width, with_structure, structures_width}

-- the words and tokens
unfoldable pub tokens_on_literals : ⊤
unfolding is_name is_reserved is_word byte_turn fresh_byte word_byte dashes_byte whole_byte greater_byte end_turn
tokens_on_literals = tt

-- what tokens spell
unfoldable pub phrases_on_literals : ⊤
unfolding word_at sign_at equal_at comma_at name_at number_at turns turns_at literal_at joined_number signed_width_at width_at size_at places_at alpha_at decimal_at kind_at direction_at part_at parts_at key_at close_factor op_at compare_at compare_turn_at open_turn_at factor_turn_at close_turn_at join_turn_at cond_turn_at cond_at cond_decl_at
phrases_on_literals = tt

unfoldable pub schema_on_literals : ⊤
unfolding item_option_at next_item_option_at item_at duplicates_at plain_option_at set_option_at next_set_option_at set_word_at set_at item_turn_at restart_at data_set_at structure_turn_at declared_turn_at data_set_end_at end_turn_at named_turn_at schema_turn_at schema_at schema_of
schema_on_literals = tt

-- what declarations describe
unfoldable pub compile_on_literals : ⊤
unfolding steps is_misplaced_data_set data_set_judged inside_at declared_at finish_drafts compile_schema value_in literal_of comparison condition verify_tree is_structure has_restart kind_of data_set_named is_taken is_part key_item_at run_of part_judged short_key key_judged initial_of item_judged end_at member_at outlined_item outlined_member outlined_inside outlined_data_set outlined_set outlined_one where_of key_of options_at is_misplaced set_over set_judged value_width condition_width items_width groups_width parts_width data_set_width set_width with_structure structures_width
compile_on_literals = tt
