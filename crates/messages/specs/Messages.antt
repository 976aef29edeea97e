-- The six kinds of message, and one message of each: what its kind does not have is blank.
-- Assumes nothing.
use Rattle.std.specs.Prelude.{ℕ}
use Rattle.views.specs.Views.{no_view}
use Rattle.views.specs.Cuts.{no_cut}
use Rattle.views.specs.declared.View.{View}
use Rattle.views.specs.declared.Cut.{Cut}
use Rattle.messages.specs.declared.Message.{Message}

-- nothing but a kind
abbrev pub blank : ℕ → Message
blank k = record { view = no_view; word = 0; number = 0; cut = no_cut; kind = k; set = 0; sender = 0; index = 0 }

-- 1 view, and 6 membership view
abbrev pub of_view : ℕ → View → Message
of_view k v = record { view = v; word = 0; number = 0; cut = no_cut; kind = k; set = 0; sender = 0; index = 0 }

-- 2 word
abbrev pub of_word : ℕ → Message
of_word w = record { view = no_view; word = w; number = 0; cut = no_cut; kind = 2; set = 0; sender = 0; index = 0 }

-- 3 sync (number, view, cut)
abbrev pub of_sync : ℕ → View → Cut → Message
of_sync n v c = record { view = v; word = 0; number = n; cut = c; kind = 3; set = 0; sender = 0; index = 0 }

-- 4 forward (sender, index, view, word)
abbrev pub of_forward : ℕ → ℕ → View → ℕ → Message
of_forward r i v w = record { view = v; word = w; number = 0; cut = no_cut; kind = 4; set = 0; sender = r; index = i }

-- 5 start change (number, set)
abbrev pub of_start_change : ℕ → ℕ → Message
of_start_change n s = record { view = no_view; word = 0; number = n; cut = no_cut; kind = 5; set = s; sender = 0; index = 0 }
