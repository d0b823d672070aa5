pub mod Form
pub mod RoundTrip
