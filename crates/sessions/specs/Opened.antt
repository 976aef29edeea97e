-- Every definition that a session computes with, opened by one name. Assumes nothing.
use Rattle.endpoint.specs.Opened.{opened as opened_below}
use Rattle.sessions.specs.Play.{desk, next, after, answers, numbers}
use Rattle.sessions.specs.Sessions.{plays, answer, enter, words, leave, synced, highest, seven, eight, nine, ten, eleven, owed, table}
use Rattle.sessions.specs.Slips.{in_t_by_id, ready_by_open, place_in_eight_bits, cut_of_newest, twice, desk3, forwarded, dropped, kept}

unfoldable pub opened : Unit {0}
unfolding opened_below desk next after answers numbers plays answer enter words leave synced highest seven eight nine ten eleven owed table in_t_by_id ready_by_open place_in_eight_bits cut_of_newest twice desk3 forwarded dropped kept
opened = tt
