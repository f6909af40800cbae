-- What the ledger's contracts say of a call: the reply, the contents and the room after it.
pub mod Orders
pub mod Sending
pub mod Listing
pub mod Showing
pub mod Says
