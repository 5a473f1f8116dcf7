-- The laws on the steps of a function's code, under one name, for a proof by hand to cite. The loans of a slice and of a local array stand apart, in `Again.antt` and `Arrays.antt`.
pub use Rattle.walk_laws.proofs.Locals.{at_addresses, freed, full, bare, gathers, frees_gathered}
pub use Rattle.walk_laws.proofs.Exit.{leave_by, thick, thick_at, Ends, leave, thin, thin_at, ended_slice}
pub use Rattle.walk_laws.proofs.Call.{Of, asks, asks_last, asksˡ, asksˡ_last, says_both, hears_both}
pub use Rattle.walk_laws.proofs.Parts.{is_true, is_false, through, first_then, skips_then, assigns_then, lands_then, big_lit, written_out}
pub use Rattle.walk_laws.proofs.Parts.{through_block, here, out, past, leaves_here, leaves_out}
pub use Rattle.walk_laws.proofs.Parts.{blocks_in, skips-by, jumps-by, assigns-by, lands-by, switch_on}
pub use Rattle.walk_laws.proofs.Loops.{through_turn, turn_here, to_out, turn_left, left_here, left_out, left_turn, left_past, leaves_turn, skips_to, jumps_to, assigns_to, lands_to, loops-by}
pub use Rattle.walk_laws.proofs.Rules.{move, keep, forget, use0, use1, peek, enter, allocated, after_result, pass, passed, init_as, store_as, local, part, sets, lands_in, returns-by}
pub use Rattle.walk_laws.proofs.Gather.{tokens_out, tokens_in, kept, turned, copied, made, nothing, gives, gone, stays, final, hears, returned}
