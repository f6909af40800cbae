-- What the page promises.
pub mod Page
