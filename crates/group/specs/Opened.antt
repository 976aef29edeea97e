-- Every definition that a run of the group computes with, opened by one name. Assumes nothing.
use Rattle.endpoint.specs.Opened.{opened as opened_below}
use Rattle.group.specs.Group.{put, fits, all_fit, fresh_desk, start, is_receive, answer, desk_after, is_accepted, sent_to, with_sent, with_channel, takes, takes_batch, receives, loses, if_there, next, run}
use Rattle.group.specs.Logs.{no_logs, accepts, gives_out, moves, entry, log_step, log_batch, log_there, log_next, logs_from, logs}
use Rattle.group.specs.WingRack.{rack_areas, in_turn, towards, into, all_enter, words_pass, rack_leaves, others_sync, forwarded, others_move, rack_dropped, wing_rack_drops, not_forwarded, rack_logs, told, second_cut, words_in, seen}

unfoldable pub opened : Unit {0}
unfolding opened_below put fits all_fit fresh_desk start is_receive answer desk_after is_accepted sent_to with_sent with_channel takes takes_batch receives loses if_there next run no_logs accepts gives_out moves entry log_step log_batch log_there log_next logs_from logs rack_areas in_turn towards into all_enter words_pass rack_leaves others_sync forwarded others_move rack_dropped wing_rack_drops not_forwarded rack_logs told second_cut words_in seen
opened = tt
